-- The prover does not part the line at the write that failed: its parts are put together by hand.
use Rattle.std.proofs.Common.{◌≡◌, ◌++◌, ◌∙◌, ap, codes, option_map, subst}
use Rattle.std.specs.Io.KnownBytes.{Appends}
use Rattle.output.specs.Begun.{AppendsBeginning}
use Rattle.output.proofs.Beginnings.{whole_begun}
use Rattle.payload.specs.Reading.{reading}
use Rattle.salvage_reports.proofs.TreatedLine.{head_begun, line_written, tail_begun, word_begun}
use Rattle.listing.specs.SettledRows.{shows_rows}
use Rattle.salvage_reports.specs.Words.{far_text, late_text}
use Rattle.salvage_reports.proofs.treated_messages.write_line.Goals.{After-late_text-late, After-unpack-unpacked}
use Rattle.salvage_reports.proofs.treated_messages.write_line.Goals as goal

module _ (g : _) (c : After-unpack-unpacked g) where
  same : c.unpack-unpacked.result ≡ reading c.args.one.message.now.payload
  same = c.unpack-unpacked.ensures.value ∙ ap reading c.bytes.ensures.same

module _ (g : _) (c : After-late_text-late g) where
  tail_is : (c.far_text-far.result.now ++ (c.late_text-late.result.now ++ codes "\n"))
      ≡ far_text c.args.one.treated.now.treated.far ++ (late_text c.args.one.treated.now.treated.late ++ codes "\n")
  tail_is = λ i. c.far_text-far.ensures i ++ (c.late_text-late.ensures i ++ codes "\n")

pub returns-in_err-write_text-clause-begun : goal.returns-in_err-write_text-clause-begun
returns-in_err-write_text-clause-begun g c =
    head_begun (shows_rows c.args.form) (option_map (λ file. file.now) c.args.symbols) c.args.one.mode c.args.one.offset c.args.one.message.now
    c.args.one.treated.now c.unpack-unpacked.result
    (same g (goal.at.returns-in_err-write_text-clause-begun g c).After-unpack-unpacked)
    (g.W.Write.contents c.args.sink.now) (g.W.Write.contents c.write_text.new.out) c.write_text.ensures.begun

pub returns-in_err-write_word-clause-begun : goal.returns-in_err-write_word-clause-begun
returns-in_err-write_word-clause-begun g c =
    word_begun (shows_rows c.args.form) (option_map (λ file. file.now) c.args.symbols) c.args.one.mode c.args.one.offset c.args.one.message.now
    c.args.one.treated.now c.unpack-unpacked.result
    (same g (goal.at.returns-in_err-write_word-clause-begun g c).After-unpack-unpacked)
    (g.W.Write.contents c.args.sink.now) (g.W.Write.contents c.write_text.new.out) c.in_ok-write_text.ensures.whole
    (g.W.Write.contents c.write_word.new.sink) c.write_word.ensures.begun

pub returns-in_err-write_text-2-clause-begun : goal.returns-in_err-write_text-2-clause-begun
returns-in_err-write_text-2-clause-begun g c =
    let mid = g.W.Write.contents c.write_word.new.sink in
    let new = g.W.Write.contents c.write_text-2.new.out in
    tail_begun (shows_rows c.args.form) (option_map (λ file. file.now) c.args.symbols) c.args.one.mode c.args.one.offset c.args.one.message.now
    c.args.one.treated.now c.unpack-unpacked.result
    (same g (goal.at.returns-in_err-write_text-2-clause-begun g c).After-unpack-unpacked)
    (g.W.Write.contents c.args.sink.now) (g.W.Write.contents c.write_text.new.out) c.in_ok-write_text.ensures.whole
    mid c.in_ok-write_word.ensures.text new
    (subst (λ l. AppendsBeginning l mid new)
    (tail_is g (goal.at.returns-in_err-write_text-2-clause-begun g c).After-late_text-late)
    c.write_text-2.ensures.begun)

pub returns-clause-text : goal.returns-clause-text
returns-clause-text g c =
    let mid = g.W.Write.contents c.write_word.new.sink in
    let new = g.W.Write.contents c.write_text-2.new.out in
    line_written (shows_rows c.args.form) (option_map (λ file. file.now) c.args.symbols) c.args.one.mode c.args.one.offset c.args.one.message.now
    c.args.one.treated.now c.unpack-unpacked.result
    (same g (goal.at.returns-clause-text g c).After-unpack-unpacked)
    (g.W.Write.contents c.args.sink.now) (g.W.Write.contents c.write_text.new.out) c.in_ok-write_text.ensures.whole
    mid c.in_ok-write_word.ensures.text new
    (subst (Appends mid new) (tail_is g (goal.at.returns-clause-text g c).After-late_text-late)
    c.in_ok-write_text-2.ensures.whole)

pub returns-clause-begun : goal.returns-clause-begun
returns-clause-begun g c =
    whole_begun _ (g.W.Write.contents c.args.sink.now) (g.W.Write.contents c.write_text-2.new.out)
    (returns-clause-text g c)
