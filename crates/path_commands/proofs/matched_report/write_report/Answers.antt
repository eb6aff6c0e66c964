-- What precedes all rows is written, and then the rows: by lemmas on parts of a text, which no tactic finds.
use Rattle.output.proofs.Beginnings.{begun_behind, begun_in_front}
use Rattle.output.proofs.Items.{ok_behind}
use Rattle.path_commands.specs.MatchedRows.{matched_rows}
use Rattle.path_commands.specs.Rows.{front_row}
use Rattle.path_commands.proofs.matched_report.write_report.Goals as goal

pub returns-in_err-write_text-clause-begun : goal.returns-in_err-write_text-clause-begun
returns-in_err-write_text-clause-begun g c =
    begun_in_front (front_row c.args.report.format)
    (matched_rows c.args.report c.args.all.now c.args.runs.now c.args.lines.now c.args.its)
    (g.O.Write.contents c.args.out.now) (g.O.Write.contents c.write_text.new.out) c.write_text.ensures.begun

pub returns-clause-text : goal.returns-clause-text
returns-clause-text g c =
    ok_behind (front_row c.args.report.format) (matched_rows c.args.report c.args.all.now c.args.runs.now c.args.lines.now c.args.its)
    (g.O.Write.contents c.args.out.now) (g.O.Write.contents c.write_text.new.out)
    (g.O.Write.contents c.write_matched_rows.new.out) c.write_matched_rows.result c.in_ok-write_text.ensures.whole
    c.write_matched_rows.ensures.text

pub returns-clause-begun : goal.returns-clause-begun
returns-clause-begun g c =
    begun_behind (front_row c.args.report.format) (matched_rows c.args.report c.args.all.now c.args.runs.now c.args.lines.now
    c.args.its)
    (g.O.Write.contents c.args.out.now) (g.O.Write.contents c.write_text.new.out)
    (g.O.Write.contents c.write_matched_rows.new.out) c.in_ok-write_text.ensures.whole
    c.write_matched_rows.ensures.begun
