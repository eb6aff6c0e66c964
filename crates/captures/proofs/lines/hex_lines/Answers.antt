-- The lines so far and one more are put together by a lemma on lists.
use Rattle.std.proofs.Common.{◌≡◌, Some, refl, slice_get}
use Rattle.std.proofs.lemmas.Option.{slice_get_read}
use Rattle.output.proofs.Beginnings.{whole_begun}
use Rattle.message.specs.Numbered.{messages_from}
use Rattle.captures.specs.HexLines.{hex_line, hex_text}
use Rattle.captures.proofs.MessageTexts.{next_begun, written_all, written_more}
use Rattle.captures.proofs.lines.hex_lines.Goals.{After-write_line}
use Rattle.captures.proofs.lines.hex_lines.Goals as goal

module _ (g : _) (c : After-write_line g) where
  at_number : slice_get c.args.payloads.now c.loop-number.number ≡ Some c.index-payloads-number.result
  at_number = slice_get_read c.args.payloads.now _ c.loop-number.number c.index-payloads-number.result refl
      c.loop-number-test.true c.index-payloads-number.is

pub loop-number-preserved : goal.loop-number-preserved
loop-number-preserved g c =
    written_more hex_line (g.W.Write.contents c.args.sink.now) (g.W.Write.contents c.loop-number.sink)
    (g.W.Write.contents c.write_line.new.sink) c.args.hart c.loop-number.number c.args.payloads.now
    c.index-payloads-number.result (at_number g (goal.at.loop-number-preserved g c).After-write_line)
    c.loop-number.invariant c.in_ok-write_line.ensures.text

pub returns-clause-text : goal.returns-clause-text
returns-clause-text g c =
    written_all hex_line (g.W.Write.contents c.args.sink.now) (g.W.Write.contents c.loop-number.sink) c.args.hart
    c.loop-number.number c.args.payloads.now c.loop-number-test.false c.loop-number.invariant

pub returns-in_err-write_line-clause-begun : goal.returns-in_err-write_line-clause-begun
returns-in_err-write_line-clause-begun g c =
    next_begun hex_line (g.W.Write.contents c.args.sink.now) (g.W.Write.contents c.loop-number.sink)
    (g.W.Write.contents c.write_line.new.sink) c.args.hart c.loop-number.number c.args.payloads.now
    c.index-payloads-number.result
    (at_number g (goal.at.returns-in_err-write_line-clause-begun g c).After-write_line)
    c.loop-number.invariant c.write_line.ensures.begun

pub returns-clause-begun : goal.returns-clause-begun
returns-clause-begun g c =
    whole_begun (hex_text (messages_from c.args.hart 0 c.args.payloads.now)) (g.W.Write.contents c.args.sink.now)
    (g.W.Write.contents c.loop-number.sink) (returns-clause-text g c)
