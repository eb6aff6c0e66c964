-- The events so far and one more are counted by lemmas on measures.
use Rattle.std.proofs.Common.{◌^◌, ◌∙◌, [], ◌∷◌, ap, arith, get_or, length, subst, sym, take}
use Rattle.std.proofs.lemmas.List.{length-take-le}
use Rattle.retire.specs.declared.event.Event.TheVariants.{Retire}
use Rattle.captures.specs.Bounds.{AreWithin}
use Rattle.captures.specs.Measures.{measured, together}
use Rattle.captures.proofs.CountedTogether.{one_event_more}
use Rattle.captures.proofs.Within.{AreWithin-events, AreWithin-le}
use Rattle.captures.proofs.measure_counting.measure_events.Goals as goal

pub count_event-requires : goal.count_event-requires
count_event-requires c =
    let front = take c.loop-event.event-index c.args.events.now in
    let counted = length-take-le c.loop-event.event-index c.args.events.now
    (omega (arith, c.loop-event-test.true)) in
    subst (AreWithin (2 ^ 50)) (sym c.loop-event.invariant)
    (AreWithin-le (length front) (2 ^ 50) (measured front [] [])
    (omega (arith, counted, c.loop-event-test.true, c.requires)) (AreWithin-events front))

pub loop-event-preserved : goal.loop-event-preserved
loop-event-preserved c =
    let one = measured (get_or c.args.events.now c.loop-event.event-index (Retire 0 0 0) ∷ []) [] [] in
    c.count_event.ensures
    ∙ ap (λ before. together before one) c.loop-event.invariant
    ∙ one_event_more c.args.events.now c.loop-event.event-index (Retire 0 0 0) c.loop-event-test.true
