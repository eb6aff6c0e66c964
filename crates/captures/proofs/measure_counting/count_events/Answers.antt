-- How large the measures of events are is a lemma on lists.
use Rattle.std.proofs.Common.{◌^◌, ◌∙◌, [], ap, arith, length, subst, sym}
use Rattle.captures.specs.Bounds.{AreWithin}
use Rattle.captures.specs.Measures.{measured, together}
use Rattle.captures.proofs.Within.{AreWithin-events, AreWithin-le, GrowsBy-together}
use Rattle.captures.proofs.measure_counting.count_events.Goals as goal

pub add-requires-clause-few : goal.add-requires-clause-few
add-requires-clause-few c =
    subst (AreWithin (2 ^ 56)) (sym c.measure_events.ensures)
    (AreWithin-le (length c.args.events.now) (2 ^ 56) (measured c.args.events.now [] [])
    (omega (arith, c.requires.few)) (AreWithin-events c.args.events.now))

pub returns-clause-grows : goal.returns-clause-grows
returns-clause-grows c =
    GrowsBy-together (length c.args.events.now) c.args.measures.now c.add.new.self
    (measured c.args.events.now [] [])
    (c.add.ensures ∙ ap (together c.args.measures.now) c.measure_events.ensures)
    (AreWithin-events c.args.events.now)
