-- The prover does not part the lines between the two writes: they are put together by hand.
use Rattle.std.proofs.Common.{Some}
use Rattle.output.proofs.Beginnings.{begun_behind, begun_in_front}
use Rattle.log_commands.specs.Checking.{verdict_line}
use Rattle.log_commands.specs.steps.Checked.{input_in, row_line}
use Rattle.log_commands.proofs.CheckedLogs.{both_written}
use Rattle.log_commands.proofs.checking.write_illegal.Goals as goal

pub returns-in_err-write_text-clause-begun : goal.returns-in_err-write_text-clause-begun
returns-in_err-write_text-clause-begun g c =
    let row = c.args.row.now in
    begun_in_front (verdict_line c.args.path.now 0 (Some row.fault)) (row_line c.args.explain (input_in c.args.input.now) row)
    (g.O.Write.contents c.args.out.now) (g.O.Write.contents c.write_text.new.out) c.write_text.ensures.begun

pub returns-clause-begun : goal.returns-clause-begun
returns-clause-begun g c =
    let row = c.args.row.now in
    begun_behind (verdict_line c.args.path.now 0 (Some row.fault)) (row_line c.args.explain (input_in c.args.input.now) row)
    (g.O.Write.contents c.args.out.now) (g.O.Write.contents c.write_text.new.out)
    (g.O.Write.contents c.write_explanation.new.out) c.in_ok-write_text.ensures.whole c.write_explanation.ensures.begun

pub returns-clause-text : goal.returns-clause-text
returns-clause-text g c =
    let row = c.args.row.now in
    both_written (verdict_line c.args.path.now 0 (Some row.fault)) (row_line c.args.explain (input_in c.args.input.now) row)
    (g.O.Write.contents c.args.out.now) (g.O.Write.contents c.write_text.new.out)
    (g.O.Write.contents c.write_explanation.new.out) c.write_explanation.result c.in_ok-write_text.ensures.whole
    c.write_explanation.ensures.text
