-- Whether the text has a capture decides what is printed: by lemmas that go by its cases, which no tactic finds.
use Rattle.std.proofs.Common.{ap, Err}
use Rattle.captures.specs.Capture.{capture_of_text}
use Rattle.path_commands.proofs.CaptureRuns.{all_cut, all_printed, fault_cut, fault_printed}
use Rattle.path_commands.proofs.capturing.write_lines.Goals as goal

pub returns-in-Err-clause-printed : goal.returns-in-Err-clause-printed
returns-in-Err-clause-printed g c =
    let wrote = c.write_capture.ensures in
    fault_printed g.O.Write.contents c.args.path c.args.out.now c.write_capture.new.sink c.write_capture.result
    c.in-Err.why (Err c.lines_fault.result) c.in-Err.is (ap Err c.lines_fault.ensures)
    (capture_of_text c.args.settings c.args.text.now) wrote.write_fault wrote.line_fault wrote.unwritten

pub returns-in-Err-clause-cut : goal.returns-in-Err-clause-cut
returns-in-Err-clause-cut g c =
    fault_cut g.O.Write.contents c.args.path c.args.out.now c.write_capture.new.sink c.write_capture.result
    (capture_of_text c.args.settings c.args.text.now) c.write_capture.ensures.begun c.write_capture.ensures.unwritten

pub returns-in_err-flush-clause-cut : goal.returns-in_err-flush-clause-cut
returns-in_err-flush-clause-cut g c =
    all_cut g.O.Write.contents c.args.path c.args.out.now c.write_capture.new.sink c.write_capture.result
    c.flush.new.self c.in_default.field-0 c.in_default.is c.flush.ensures.bytes
    (capture_of_text c.args.settings c.args.text.now) c.write_capture.ensures.capture
    c.write_capture.ensures.line_fault

pub returns-clause-printed : goal.returns-clause-printed
returns-clause-printed g c =
    all_printed g.O.Write.contents c.args.path c.args.out.now c.write_capture.new.sink c.write_capture.result
    c.flush.new.self c.in_default.field-0 c.in_default.is c.flush.ensures.bytes
    (capture_of_text c.args.settings c.args.text.now) c.write_capture.ensures.capture
    c.write_capture.ensures.line_fault
