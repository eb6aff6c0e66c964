-- The prover does not part the line at the write that failed: its parts are put together by hand.
use Rattle.std.proofs.Common.{◌≡◌, ap, ◌∙◌}
use Rattle.output.proofs.Beginnings.{whole_begun}
use Rattle.payload.specs.Reading.{reading}
use Rattle.listing.specs.Listing.{names_in}
use Rattle.listing.specs.SettledRows.{shows_rows}
use Rattle.listing.proofs.LineParts.{events_begun, head_begun, line_written, tail_begun}
use Rattle.listing.proofs.lines.write_effect_line.Goals.{After-unpack-unpacked}
use Rattle.listing.proofs.lines.write_effect_line.Goals as goal

module _ (g : _) (c : After-unpack-unpacked g) where
  same : c.unpack-unpacked.result ≡ reading c.args.message.now.payload
  same = c.unpack-unpacked.ensures.value ∙ ap reading c.bytes.ensures.same

pub returns-in_err-write_text-clause-begun : goal.returns-in_err-write_text-clause-begun
returns-in_err-write_text-clause-begun g c =
    head_begun (shows_rows c.args.input.now.form) (names_in c.args.input.now) c.args.mode c.args.offset
    c.args.message.now c.args.added.events.now c.args.added.rows c.unpack-unpacked.result
    (same g (goal.at.returns-in_err-write_text-clause-begun g c).After-unpack-unpacked)
    (g.W.Write.contents c.args.sink.now) (g.W.Write.contents c.write_text.new.out) c.write_text.ensures.begun

pub returns-in_err-write_added-clause-begun : goal.returns-in_err-write_added-clause-begun
returns-in_err-write_added-clause-begun g c =
    events_begun (shows_rows c.args.input.now.form) (names_in c.args.input.now) c.args.mode c.args.offset
    c.args.message.now c.args.added.events.now c.args.added.rows c.unpack-unpacked.result
    (same g (goal.at.returns-in_err-write_added-clause-begun g c).After-unpack-unpacked)
    (g.W.Write.contents c.args.sink.now) (g.W.Write.contents c.write_text.new.out) c.in_ok-write_text.ensures.whole
    (g.W.Write.contents c.write_added.new.sink) c.write_added.ensures.begun

pub returns-in_err-write_text-2-clause-begun : goal.returns-in_err-write_text-2-clause-begun
returns-in_err-write_text-2-clause-begun g c =
    let late = g.W.Write.contents c.write_added.new.sink in
    let new = g.W.Write.contents c.write_text-2.new.out in
    tail_begun (shows_rows c.args.input.now.form) (names_in c.args.input.now) c.args.mode c.args.offset
    c.args.message.now c.args.added.events.now c.args.added.rows c.unpack-unpacked.result
    (same g (goal.at.returns-in_err-write_text-2-clause-begun g c).After-unpack-unpacked)
    (g.W.Write.contents c.args.sink.now) (g.W.Write.contents c.write_text.new.out) c.in_ok-write_text.ensures.whole
    late c.in_ok-write_added.ensures.text new c.write_text-2.ensures.begun

pub returns-clause-text : goal.returns-clause-text
returns-clause-text g c =
    let late = g.W.Write.contents c.write_added.new.sink in
    let new = g.W.Write.contents c.write_text-2.new.out in
    line_written (shows_rows c.args.input.now.form) (names_in c.args.input.now) c.args.mode c.args.offset
    c.args.message.now c.args.added.events.now c.args.added.rows c.unpack-unpacked.result
    (same g (goal.at.returns-clause-text g c).After-unpack-unpacked)
    (g.W.Write.contents c.args.sink.now) (g.W.Write.contents c.write_text.new.out) c.in_ok-write_text.ensures.whole
    late c.in_ok-write_added.ensures.text new c.in_ok-write_text-2.ensures.whole

pub returns-clause-begun : goal.returns-clause-begun
returns-clause-begun g c =
    whole_begun _ (g.W.Write.contents c.args.sink.now) (g.W.Write.contents c.write_text-2.new.out)
    (returns-clause-text g c)
