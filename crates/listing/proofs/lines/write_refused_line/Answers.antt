-- What was unpacked is what the payload's reading gives: the equation goes into the text, where no tactic puts it.
use Rattle.std.proofs.Common.{◌≡◌, ◌++◌, codes, ap, subst, ◌∙◌}
use Rattle.std.specs.Io.KnownBytes.{Appends}
use Rattle.output.specs.Begun.{AppendsBeginning}
use Rattle.payload.specs.Reading.{reading}
use Rattle.listing.specs.Lines.{refused_line, text_with}
use Rattle.listing.proofs.lines.write_refused_line.Goals.{After-unpack-unpacked}
use Rattle.listing.proofs.lines.write_refused_line.Goals as goal

module _ (g : _) (c : After-unpack-unpacked g) where
  same : text_with c.args.mode c.args.offset c.args.message.now c.unpack-unpacked.result ++ codes "\n"
      ≡ refused_line c.args.mode c.args.offset c.args.message.now
  same =
      ap (λ read. text_with c.args.mode c.args.offset c.args.message.now read ++ codes "\n")
      (c.unpack-unpacked.ensures.value ∙ ap reading c.bytes.ensures.same)

pub returns-in_err-write_text-clause-begun : goal.returns-in_err-write_text-clause-begun
returns-in_err-write_text-clause-begun g c =
    subst
    (λ l. AppendsBeginning l (g.W.Write.contents c.args.sink.now) (g.W.Write.contents c.write_text.new.out))
    (same g (goal.at.returns-in_err-write_text-clause-begun g c).After-unpack-unpacked)
    c.write_text.ensures.begun

pub returns-clause-text : goal.returns-clause-text
returns-clause-text g c =
    subst
    (Appends (g.W.Write.contents c.args.sink.now) (g.W.Write.contents c.write_text.new.out))
    (same g (goal.at.returns-clause-text g c).After-unpack-unpacked)
    c.in_ok-write_text.ensures.whole

pub returns-clause-begun : goal.returns-clause-begun
returns-clause-begun g c =
    subst
    (λ l. AppendsBeginning l (g.W.Write.contents c.args.sink.now) (g.W.Write.contents c.write_text.new.out))
    (same g (goal.at.returns-clause-begun g c).After-unpack-unpacked)
    c.write_text.ensures.begun
