-- What was unpacked is what the payload's reading gives: the equation goes into the row, where no tactic puts it.
use Rattle.std.proofs.Common.{◌≡◌, ◌++◌, codes, ap, subst, ◌∙◌}
use Rattle.std.specs.Io.KnownBytes.{Appends}
use Rattle.output.specs.Begun.{AppendsBeginning}
use Rattle.payload.specs.Reading.{reading}
use Rattle.listing.proofs.RowParts.{refused_parts}
use Rattle.listing.specs.Rows.{refused_row}
use Rattle.listing.specs.Cells.{message_cells}
use Rattle.listing.proofs.rows.write_refused_row.Goals.{After-unpack-unpacked}
use Rattle.listing.proofs.rows.write_refused_row.Goals as goal

module _ (g : _) (c : After-unpack-unpacked g) where
  same : message_cells (codes "refused") c.args.mode c.args.at.number c.args.at.offset c.args.message.now
      c.unpack-unpacked.result ++ codes ",,,,,,,,,,,,,,\n"
      ≡ refused_row c.args.mode c.args.at.number c.args.at.offset c.args.message.now
  same =
      refused_parts c.args.mode c.args.at.number c.args.at.offset c.args.message.now c.unpack-unpacked.result
      (c.unpack-unpacked.ensures.value ∙ ap reading c.bytes.ensures.same)

pub returns-in_err-write_text-clause-begun : goal.returns-in_err-write_text-clause-begun
returns-in_err-write_text-clause-begun g c =
    subst
    (λ l. AppendsBeginning l (g.W.Write.contents c.args.sink.now) (g.W.Write.contents c.write_text.new.out))
    (same g (goal.at.returns-in_err-write_text-clause-begun g c).After-unpack-unpacked)
    c.write_text.ensures.begun

pub returns-clause-text : goal.returns-clause-text
returns-clause-text g c =
    subst
    (Appends (g.W.Write.contents c.args.sink.now) (g.W.Write.contents c.write_text.new.out))
    (same g (goal.at.returns-clause-text g c).After-unpack-unpacked)
    c.in_ok-write_text.ensures.whole

pub returns-clause-begun : goal.returns-clause-begun
returns-clause-begun g c =
    subst
    (λ l. AppendsBeginning l (g.W.Write.contents c.args.sink.now) (g.W.Write.contents c.write_text.new.out))
    (same g (goal.at.returns-clause-begun g c).After-unpack-unpacked)
    c.write_text.ensures.begun
