-- What holds of each place so far: by a lemma on a row of places.
use Rattle.std.proofs.Common.{◌≡◌, ◌∙◌, false, drop, sym, ap}
use Rattle.std.proofs.lemmas.List.{take_rest}
use Rattle.frames.specs.GuidedTaken.{is_taken_anywhere}
use Rattle.frames.proofs.Places.{through}
use Rattle.frames.proofs.guided_taking.bytes_to_next.Goals as goal

pub loop-at-preserved : goal.loop-at-preserved
loop-at-preserved g c =
    let sees = g.S.Sent.sees c.args.sent.now in
    let here : is_taken_anywhere sees (drop c.loop-at.at c.args.bytes.now) ≡ false =
    ap (is_taken_anywhere sees) (sym (take_rest c.args.bytes.now c.loop-at.at)) ∙ sym c.is_taken_anywhere.ensures
    ∙ c.if-is_taken_anywhere.false in
    through (λ k. is_taken_anywhere sees (drop k c.args.bytes.now) ≡ false) c.loop-at.at c.loop-at.invariant here
