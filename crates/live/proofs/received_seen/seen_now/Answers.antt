-- What is seen of a message by where it is: by a lemma on what is held, which no tactic finds.
use Rattle.std.proofs.Common.{◌∙◌, ap}
use Rattle.live.specs.Received.{seen_at}
use Rattle.live.specs.View.{in_view}
use Rattle.live.proofs.ReceivedSeen.{slots_seen}
use Rattle.live.proofs.received_seen.seen_now.Goals as goal

pub returns-in-Below : goal.returns-in-Below
returns-in-Below g c = λ sent came front holds.
    ap (seen_at c.args.window.now.by (in_view c.args.window.now.window sent front) c.args.message.now)
    (c.in-Below.ensures.standing sent came front holds)

pub returns-in-Beyond : goal.returns-in-Beyond
returns-in-Beyond g c = λ sent came front holds.
    ap (seen_at c.args.window.now.by (in_view c.args.window.now.window sent front) c.args.message.now)
    (c.in-Beyond.ensures.standing sent came front holds)

pub returns-in-At : goal.returns-in-At
returns-in-At g c = λ sent came front holds.
    c.seen_beside.ensures
    ∙ slots_seen c.args.window.now.by sent came front c.args.window.now holds c.args.message.now c.in-At.place
    ∙ ap (seen_at c.args.window.now.by (in_view c.args.window.now.window sent front) c.args.message.now)
    (c.in-At.ensures.standing sent came front holds)
