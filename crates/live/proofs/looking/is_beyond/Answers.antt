-- Where a message is: by what was read, which no tactic puts together.
use Rattle.std.proofs.Common.{◌∙◌, ap, take}
use Rattle.live.specs.Live.{is_beyond}
use Rattle.live.specs.View.{standing_of}
use Rattle.live.proofs.Following.{fails_again, looked_again}
use Rattle.live.proofs.looking.is_beyond.Goals as goal

pub returns-in-Ok : goal.returns-in-Ok
returns-in-Ok g c = λ all read asked state right reads was.
    let message = c.args.message.now in
    let looked = c.in-Ok.ensures all read state.came state.front right reads in
    let some = take looked.read all.sent in (
      c.is_beyond.ensures
          ∙ ap is_beyond
          (c.find.ensures.standing some state.came state.front looked.reads.holds
          ∙ ap (λ w. standing_of w some state.front message.hart message.number) looked.reads.window ∙ looked.settled),
      (
        looked.read,
        looked.reads,
        looked_again all asked read was state.front message.hart message.number looked.read looked.was,
      ),
    )

pub returns-in-Err : goal.returns-in-Err
returns-in-Err g c = λ all read asked state right reads was.
    let message = c.args.message.now in
    fails_again all asked read was state.front message.hart message.number c.in-Err.why
    (g.S.SentSource.left c.look.new.source) (c.in-Err.ensures all read state.came state.front right reads).fails
