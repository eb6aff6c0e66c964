-- What holds of each place so far: by a lemma on a row of places.
use Rattle.std.proofs.Common.{◌≡◌, ◌∙◌, false, drop, sym, ap}
use Rattle.std.proofs.lemmas.List.{take_rest}
use Rattle.frames.specs.Taken.{is_taken}
use Rattle.frames.proofs.Places.{through}
use Rattle.frames.proofs.taking.bytes_to_next.Goals as goal

pub loop-at-preserved : goal.loop-at-preserved
loop-at-preserved c =
    let here : is_taken c.args.known (drop c.loop-at.at c.args.bytes.now) ≡ false =
    ap (is_taken c.args.known) (sym (take_rest c.args.bytes.now c.loop-at.at)) ∙ sym c.is_taken.ensures
    ∙ c.if-is_taken.false in
    through (λ k. is_taken c.args.known (drop k c.args.bytes.now) ≡ false) c.loop-at.at c.loop-at.invariant here
