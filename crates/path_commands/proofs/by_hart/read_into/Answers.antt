-- One message more is read and kept: by lemmas on captures and lists, which no tactic finds.
use Rattle.std.proofs.Common.{◌++◌, ◌∷◌, ◌∙◌, [], refl, arith}
use Rattle.captures.proofs.FoundInFront.{in_front}
use Rattle.captures.proofs.WholeCaptures.{read_next}
use Rattle.path_commands.proofs.by_hart.read_into.Goals as goal

pub loop-message-init : goal.loop-message-init
loop-message-init c = (
  record { messages = []; read = record { ranges = λ k d less. absurd (omega (arith, less)); whole = refl }; kept = c.requires.fresh },
  refl,
  refl,
)

pub loop-message-preserved : goal.loop-message-preserved
loop-message-preserved c =
    let next = c.next.new.self in
    let message = c.in-Ok-Some.message in
    let said = c.in-Ok-Some.ensures in
    let has = c.loop-message.invariant.0 in
    let front = in_front c.loop-message.left next _ message c.in-Ok-Some.field-0-is said.ranges said.message
    said.shorter in
    let kept = c.in_ok-take_message-in-Ok-Some.ensures.kept has.messages has.kept in (
      record {
        messages = has.messages ++ message ∷ [];
        read = read_next c.args.left c.loop-message.left next has.messages message has.read front.is_message front.here;
        kept = kept.0;
      },
      c.take_message.ensures.by ∙ c.loop-message.invariant.1,
      kept.1 ∙ c.loop-message.invariant.2,
    )
