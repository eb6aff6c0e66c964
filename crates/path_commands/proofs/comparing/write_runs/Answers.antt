-- Where no summary is asked for, the rows are written: by what was asked, which is too far off for a search.
use Rattle.std.proofs.Common.{length, sym, subst}
use Rattle.std.specs.Prelude.{OnOk}
use Rattle.std.specs.Io.KnownBytes.{Appends}
use Rattle.output.specs.Begun.{AppendsBeginning}
use Rattle.auditing.specs.Known.{known_all}
use Rattle.path_commands.specs.AuditText.{unless_summary}
use Rattle.path_commands.specs.Rows.{all_run_rows}
use Rattle.path_commands.specs.OnlyHarts.{harts_among}
use Rattle.path_commands.proofs.comparing.write_runs.Goals as goal

pub returns-clause-text : goal.returns-clause-text
returns-clause-text g c = λ sent received audits.
    let how = c.args.path.now.by in
    let rows =
    all_run_rows c.args.report.format (known_all how sent) (known_all how received) (harts_among c.args.report.harts
    (length c.args.path.now.harts)) in
    subst
    (λ summary. OnOk c.write_losses.result (Appends (g.O.Write.contents c.args.out.now)
    (g.O.Write.contents c.write_losses.new.out) (unless_summary summary rows))) (sym c.if-report.false)
    (c.write_losses.ensures.text sent received audits)

pub returns-clause-begun : goal.returns-clause-begun
returns-clause-begun g c = λ sent received audits.
    let how = c.args.path.now.by in
    let rows =
    all_run_rows c.args.report.format (known_all how sent) (known_all how received) (harts_among c.args.report.harts
    (length c.args.path.now.harts)) in
    subst
    (λ summary. AppendsBeginning (unless_summary summary rows) (g.O.Write.contents c.args.out.now)
    (g.O.Write.contents c.write_losses.new.out)) (sym c.if-report.false) (c.write_losses.ensures.begun sent received
    audits)
