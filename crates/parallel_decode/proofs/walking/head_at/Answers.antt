-- The message is the one that the bytes begin with: by a lemma, which no tactic finds.
use Rattle.std.proofs.Common.{◌≡◌, ◌-◌, ◌∙◌, ap, arith, drop, length, subst, sym, take}
use Rattle.std.proofs.lemmas.List.{length-drop, take_all}
use Rattle.frames.specs.Frame.{hart_in, message_size}
use Rattle.message.specs.steps.Filling.{AreBytes}
use Rattle.parallel_decode.proofs.WalkLemmas.{head_starts}
use Rattle.parallel_decode.proofs.walking.head_at.Goals as goal

pub returns-in-Some : goal.returns-in-Some
returns-in-Some c =
    let bytes = c.args.bytes.now in
    let place = c.args.place in
    let left = length-drop place bytes in
    let all : take (length bytes - place) (drop place bytes) ≡ drop place bytes =
    take_all (length bytes - place) (drop place bytes) (omega (arith, left)) in
    let found = head_starts bytes place c.in-Some.size (omega arith) (subst AreBytes all c.hart_of.ensures.bytes)
    (sym (ap message_size all) ∙ sym c.message_size.ensures.value ∙ c.in-Some.is) in
    (found.0, found.1, found.2 ∙ sym (ap hart_in all) ∙ sym c.hart_of.ensures.hart, found.3)
