-- The first event and the last are found by a lemma on lists, and the symbols are put in.
use Rattle.std.proofs.Common.{rules, ◌≤◌, length, subst}
use Rattle.std.specs.Io.KnownBytes.{Appends}
use Rattle.std.specs.Prelude.{OnOk}
use Rattle.output.specs.Begun.{AppendsBeginning}
use Rattle.salvage_reports.proofs.RangeOf.{range_is}
use Rattle.salvage_reports.proofs.stretch_ends.write_places.Goals as goal

pub returns-clause-text : goal.returns-clause-text
returns-clause-text g c =
    let some : 1 ≤ length c.args.events.now = search rules in
    let is = range_is c.in-Some.symbols.now c.args.events.now _ _ c.place.result c.place-2.result some c.place.ensures
    c.place-2.ensures in
    rw c.in-Some.is
    (subst (λ text. OnOk c.write_range.result (Appends (g.O.Write.contents c.args.out.now)
    (g.O.Write.contents c.write_range.new.out) text)) is c.write_range.ensures.text)

pub returns-clause-begun : goal.returns-clause-begun
returns-clause-begun g c =
    let some : 1 ≤ length c.args.events.now = search rules in
    let is = range_is c.in-Some.symbols.now c.args.events.now _ _ c.place.result c.place-2.result some c.place.ensures
    c.place-2.ensures in
    rw c.in-Some.is
    (subst (λ text. AppendsBeginning text (g.O.Write.contents c.args.out.now)
    (g.O.Write.contents c.write_range.new.out)) is c.write_range.ensures.begun)
