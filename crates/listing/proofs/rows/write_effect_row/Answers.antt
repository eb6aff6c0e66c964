-- The prover does not part the row at the write that failed, nor put what was found into it: by a lemma on rows.
use Rattle.std.proofs.Common.{◌≡◌, ◌++◌, List, Option, ap, codes, length, option_map, refl, subst, ℕ, ◌∙◌}
use Rattle.std.proofs.KnownBytes.{Appends-trans}
use Rattle.std.specs.Io.KnownBytes.{Appends}
use Rattle.output.specs.Begun.{AppendsBeginning}
use Rattle.output.proofs.Beginnings.{begun_behind, begun_in_front, whole_begun}
use Rattle.payload.specs.Reading.{reading}
use Rattle.listing.specs.steps.Message.{effect_of}
use Rattle.listing.specs.Cells.{message_cells, names_end}
use Rattle.listing.specs.Rows.{effect_row}
use Rattle.listing.specs.steps.Writing.{tail_cells}
use Rattle.listing.proofs.RowParts.{row_by}
use Rattle.listing.proofs.rows.write_effect_row.Goals.{After-write_text}
use Rattle.listing.proofs.rows.write_effect_row.Goals as goal

module _ (g : _) (c : After-write_text g) where
  abbrev symbols : Option (List ℕ)
  symbols = option_map (λ file. file.now) c.args.symbols

  -- What is before the names of places, and then these.
  abbrev front : List ℕ
  front =
      message_cells (codes "message") c.args.mode c.args.at.number c.args.at.offset c.args.message.now
      c.unpack-unpacked.result
      ++ tail_cells c.read_waits.result c.read_closes.result c.args.added.rows (length c.args.added.events.now)
      c.first_of-first.result c.last_of-last.result

  abbrev back : List ℕ
  back = names_end symbols c.first_of-first.result c.last_of-last.result

  abbrev row : List ℕ
  row =
      effect_row symbols c.args.mode c.args.at.number c.args.at.offset c.args.message.now
      (effect_of c.args.added.events.now c.args.added.rows (reading c.args.message.now.payload))

  is_row : front ++ back ≡ row
  is_row =
      row_by symbols c.args.mode c.args.at.number c.args.at.offset c.args.message.now c.args.added.events.now
      c.args.added.rows c.unpack-unpacked.result
      (c.unpack-unpacked.ensures.value ∙ ap reading c.bytes.ensures.same) c.read_waits.result c.read_closes.result
      (length c.args.added.events.now) c.first_of-first.result c.last_of-last.result c.read_waits.ensures c.read_closes.ensures
      refl c.first_of-first.ensures c.last_of-last.ensures

pub returns-in_err-write_text-clause-begun : goal.returns-in_err-write_text-clause-begun
returns-in_err-write_text-clause-begun g c =
    let at = (goal.at.returns-in_err-write_text-clause-begun g c).After-write_text in
    let old = g.W.Write.contents c.args.sink.now in
    let mid = g.W.Write.contents c.write_text.new.out in
    subst (λ l. AppendsBeginning l old mid) (is_row g at)
    (begun_in_front (front g at) (back g at) old mid c.write_text.ensures.begun)

pub returns-in_err-write_names-clause-begun : goal.returns-in_err-write_names-clause-begun
returns-in_err-write_names-clause-begun g c =
    let at = (goal.at.returns-in_err-write_names-clause-begun g c).After-write_text in
    let old = g.W.Write.contents c.args.sink.now in
    let mid = g.W.Write.contents c.write_text.new.out in
    let new = g.W.Write.contents c.write_names.new.sink in
    subst (λ l. AppendsBeginning l old new) (is_row g at)
    (begun_behind (front g at) (back g at) old mid new c.in_ok-write_text.ensures.whole c.write_names.ensures.begun)

pub returns-clause-text : goal.returns-clause-text
returns-clause-text g c =
    let at = (goal.at.returns-clause-text g c).After-write_text in
    let old = g.W.Write.contents c.args.sink.now in
    let mid = g.W.Write.contents c.write_text.new.out in
    let new = g.W.Write.contents c.write_names.new.sink in
    subst (Appends old new) (is_row g at)
    (Appends-trans old mid new (front g at) (back g at) c.in_ok-write_text.ensures.whole
    c.in_ok-write_names.ensures.text)

pub returns-clause-begun : goal.returns-clause-begun
returns-clause-begun g c =
    whole_begun _ (g.W.Write.contents c.args.sink.now) (g.W.Write.contents c.write_names.new.sink)
    (returns-clause-text g c)
