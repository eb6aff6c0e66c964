-- One message more is read: by a lemma on captures, which no tactic finds.
use Rattle.std.proofs.Common.{◌≡◌, ◌∷◌, ◌++◌, [], sym, subst, arith}
use Rattle.std.proofs.lemmas.Grind.{common_steps}
use Rattle.captures.proofs.FoundInFront.{in_front}
use Rattle.captures.proofs.WholeCaptures.{HasRead, read_next}
use Rattle.captures.proofs.capture_reading.read_into.Goals as goal

pub loop-message-preserved : goal.loop-message-preserved
loop-message-preserved g c =
    let next = c.next.new.self in
    let messages = c.loop-message.messages.items in
    let message = c.in-Ok-Some.message in
    let said = c.in-Ok-Some.ensures in
    let front = in_front c.loop-message.left next _ message c.in-Ok-Some.field-0-is said.ranges said.message
    said.shorter in
    let pushed : c.push.new.self.items ≡ messages ++ message ∷ [] = grind (arith, common_steps) in
    subst (HasRead c.args.left next) (sym pushed)
    (read_next c.args.left c.loop-message.left next messages message c.loop-message.invariant front.is_message
    front.here)
