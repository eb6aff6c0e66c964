-- The prover does not part the row at the write that failed, nor put what was found into it: by a lemma on rows.
use Rattle.std.proofs.Common.{◌≡◌, ◌++◌, ◌∙◌, List, Option, ap, option_map, subst, ℕ}
use Rattle.std.proofs.KnownBytes.{Appends-trans}
use Rattle.std.specs.Io.KnownBytes.{Appends}
use Rattle.output.specs.Begun.{AppendsBeginning}
use Rattle.output.proofs.Beginnings.{begun_behind, begun_in_front, whole_begun}
use Rattle.payload.specs.Reading.{reading}
use Rattle.listing.specs.Cells.{names_end}
use Rattle.salvage_reports.proofs.TreatedRow.{front, row_is}
use Rattle.salvage_reports.specs.TreatedRows.{treated_row}
use Rattle.salvage_reports.proofs.treated_messages.write_row.Goals.{After-last_place-last}
use Rattle.salvage_reports.proofs.treated_messages.write_row.Goals as goal

module _ (g : _) (c : After-last_place-last g) where
  abbrev symbols : Option (List ℕ)
  symbols = option_map (λ file. file.now) c.args.symbols

  same : c.unpack-unpacked.result ≡ reading c.args.one.message.now.payload
  same = c.unpack-unpacked.ensures.value ∙ ap reading c.bytes.ensures.same

  -- What is before the names of places, and then these.
  abbrev before : List ℕ
  before =
      front symbols c.args.one.mode c.args.one.at c.args.one.offset c.args.one.message.now c.args.one.treated.now c.unpack-unpacked.result
      same c.first_place-first.result c.last_place-last.result c.first_place-first.ensures c.last_place-last.ensures

  abbrev names : List ℕ
  names = names_end symbols c.first_place-first.result c.last_place-last.result

  is_row : before ++ names
      ≡ treated_row symbols c.args.one.mode c.args.one.at c.args.one.offset c.args.one.message.now c.args.one.treated.now
  is_row =
      row_is symbols c.args.one.mode c.args.one.at c.args.one.offset c.args.one.message.now c.args.one.treated.now c.unpack-unpacked.result
      same c.first_place-first.result c.last_place-last.result c.first_place-first.ensures c.last_place-last.ensures

pub returns-in_err-write_text-clause-begun : goal.returns-in_err-write_text-clause-begun
returns-in_err-write_text-clause-begun g c =
    let at = (goal.at.returns-in_err-write_text-clause-begun g c).After-last_place-last in
    let old = g.W.Write.contents c.args.sink.now in
    let mid = g.W.Write.contents c.write_text.new.out in
    subst (λ l. AppendsBeginning l old mid) (is_row g at)
    (begun_in_front (before g at) (names g at) old mid c.write_text.ensures.begun)

pub returns-in_err-write_names-clause-begun : goal.returns-in_err-write_names-clause-begun
returns-in_err-write_names-clause-begun g c =
    let at = (goal.at.returns-in_err-write_names-clause-begun g c).After-last_place-last in
    let old = g.W.Write.contents c.args.sink.now in
    let mid = g.W.Write.contents c.write_text.new.out in
    let new = g.W.Write.contents c.write_names.new.sink in
    subst (λ l. AppendsBeginning l old new) (is_row g at)
    (begun_behind (before g at) (names g at) old mid new c.in_ok-write_text.ensures.whole c.write_names.ensures.begun)

pub returns-clause-text : goal.returns-clause-text
returns-clause-text g c =
    let at = (goal.at.returns-clause-text g c).After-last_place-last in
    let old = g.W.Write.contents c.args.sink.now in
    let mid = g.W.Write.contents c.write_text.new.out in
    let new = g.W.Write.contents c.write_names.new.sink in
    subst (Appends old new) (is_row g at)
    (Appends-trans old mid new (before g at) (names g at) c.in_ok-write_text.ensures.whole
    c.in_ok-write_names.ensures.text)

pub returns-clause-begun : goal.returns-clause-begun
returns-clause-begun g c =
    whole_begun _ (g.W.Write.contents c.args.sink.now) (g.W.Write.contents c.write_names.new.sink)
    (returns-clause-text g c)
