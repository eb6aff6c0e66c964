-- The rows are written one after the other: by lemmas on parts of a text, which no tactic finds.
use Rattle.std.proofs.Common.{sym, subst}
use Rattle.std.specs.Io.KnownBytes.{Appends}
use Rattle.std.specs.Prelude.{OnOk}
use Rattle.output.specs.Begun.{AppendsBeginning}
use Rattle.output.proofs.Beginnings.{begun_behind, begun_in_front}
use Rattle.output.proofs.Items.{ok_behind}
use Rattle.path_commands.specs.AuditText.{unless_summary}
use Rattle.path_commands.specs.MatchedRows.{arrival_rows, single_rows, unmatched_rows}
use Rattle.path_commands.specs.UnnumberedText.{texts_from}
use Rattle.path_commands.proofs.matched_report.write_singles.Goals as goal

pub returns-in_err-write_arrivals-clause-begun : goal.returns-in_err-write_arrivals-clause-begun
returns-in_err-write_arrivals-clause-begun g c =
    let old = g.O.Write.contents c.args.out.now in
    let new = g.O.Write.contents c.write_arrivals.new.out in
    subst (λ summary. AppendsBeginning (unless_summary summary (single_rows c.args.report.format c.args.all.now
    c.args.runs.now c.args.lines.now)) old new)
    (sym c.if-report.false)
    (begun_in_front (arrival_rows c.args.report.format c.args.runs.now c.args.lines.now)
    (texts_from (unmatched_rows c.args.report.format) 0 c.args.all.now) old new
    c.write_arrivals.ensures.begun)

pub returns-clause-text : goal.returns-clause-text
returns-clause-text g c =
    let old = g.O.Write.contents c.args.out.now in
    let mid = g.O.Write.contents c.write_arrivals.new.out in
    let new = g.O.Write.contents c.write_unmatched.new.out in
    subst
    (λ summary. OnOk c.write_unmatched.result
    (Appends old new (unless_summary summary (single_rows c.args.report.format c.args.all.now c.args.runs.now c.args.lines.now))))
    (sym c.if-report.false)
    (ok_behind (arrival_rows c.args.report.format c.args.runs.now c.args.lines.now)
    (texts_from (unmatched_rows c.args.report.format) 0 c.args.all.now) old mid new
    c.write_unmatched.result c.in_ok-write_arrivals.ensures.text c.write_unmatched.ensures.text)

pub returns-clause-begun : goal.returns-clause-begun
returns-clause-begun g c =
    let old = g.O.Write.contents c.args.out.now in
    let mid = g.O.Write.contents c.write_arrivals.new.out in
    let new = g.O.Write.contents c.write_unmatched.new.out in
    subst (λ summary. AppendsBeginning (unless_summary summary (single_rows c.args.report.format c.args.all.now
    c.args.runs.now c.args.lines.now)) old new)
    (sym c.if-report.false)
    (begun_behind (arrival_rows c.args.report.format c.args.runs.now c.args.lines.now)
    (texts_from (unmatched_rows c.args.report.format) 0 c.args.all.now) old mid new
    c.in_ok-write_arrivals.ensures.text c.write_unmatched.ensures.begun)
