-- The first place is known by the places before it: by a lemma on lists.
use Rattle.std.proofs.Common.{◌∙◌, ◌≡◌, arith, sym, true, false, slice_index, below_more}
use Rattle.std.proofs.lemmas.List.Sums.{position_or_len_is}
use Rattle.captures.specs.steps.Cutting.{stops}
use Rattle.captures.proofs.line_field.first_place.Goals as goal

pub returns-then-stops-clause-place : goal.returns-then-stops-clause-place
returns-then-stops-clause-place c =
    let found : stops c.args.stop (slice_index c.args.text.now c.loop-place.place) ≡ true =
    sym c.stops.ensures ∙ c.if-stops.true in
    sym (position_or_len_is (stops c.args.stop) c.args.text.now c.loop-place.place 0
    (omega (arith, c.loop-place-test.true)) c.loop-place.invariant (λ inside. found))

pub loop-place-preserved : goal.loop-place-preserved
loop-place-preserved c =
    let other : stops c.args.stop (slice_index c.args.text.now c.loop-place.place) ≡ false =
    sym c.stops.ensures ∙ c.if-stops.false in
    below_more _ _ c.loop-place.invariant other

pub returns-clause-place : goal.returns-clause-place
returns-clause-place c =
    sym (position_or_len_is (stops c.args.stop) c.args.text.now _ 0 (omega arith)
    (λ k low. c.loop-place.invariant k (omega (arith, low, c.loop-place-test.false)))
    (λ inside. absurd (omega (arith, inside))))
