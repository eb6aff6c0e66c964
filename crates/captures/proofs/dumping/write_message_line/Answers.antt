-- What was unpacked is what the payload's reading gives: the equation goes into the text, where no tactic puts it.
use Rattle.std.proofs.Common.{◌≡◌, ap, option_map, subst, ◌∙◌}
use Rattle.std.specs.Io.KnownBytes.{Appends}
use Rattle.output.specs.Begun.{AppendsBeginning}
use Rattle.payload.specs.Reading.{reading}
use Rattle.captures.specs.Dump.{line_with}
use Rattle.captures.proofs.dumping.write_message_line.Goals.{After-unpack-unpacked}
use Rattle.captures.proofs.dumping.write_message_line.Goals as goal

module _ (g : _) (c : After-unpack-unpacked g) where
  same : c.unpack-unpacked.result ≡ reading c.args.message.now.payload
  same = c.unpack-unpacked.ensures.value ∙ ap reading c.bytes.ensures.same

pub returns-clause-text : goal.returns-clause-text
returns-clause-text g c =
    let is_read = same g (goal.at.returns-clause-text g c).After-unpack-unpacked in
    subst
    (λ read. Appends (g.W.Write.contents c.args.sink.now) (g.W.Write.contents c.write_line_with.new.sink)
    (line_with (option_map (λ file. file.now) c.args.symbols) c.args.mode c.args.message.now read)) is_read
    c.in_ok-write_line_with.ensures.text

pub returns-clause-begun : goal.returns-clause-begun
returns-clause-begun g c =
    let is_read = same g (goal.at.returns-clause-begun g c).After-unpack-unpacked in
    subst
    (λ read. AppendsBeginning (line_with (option_map (λ file. file.now) c.args.symbols) c.args.mode c.args.message.now
    read) (g.W.Write.contents c.args.sink.now) (g.W.Write.contents c.write_line_with.new.sink)) is_read
    c.write_line_with.ensures.begun

pub returns-in_err-write_line_with-clause-begun : goal.returns-in_err-write_line_with-clause-begun
returns-in_err-write_line_with-clause-begun g c =
    let is_read = same g (goal.at.returns-in_err-write_line_with-clause-begun g c).After-unpack-unpacked in
    subst
    (λ read. AppendsBeginning (line_with (option_map (λ file. file.now) c.args.symbols) c.args.mode c.args.message.now
    read) (g.W.Write.contents c.args.sink.now) (g.W.Write.contents c.write_line_with.new.sink)) is_read
    c.write_line_with.ensures.begun
