-- The prover tries no record of its own: what was checked, and the lines that were written, are handed to it.
use Rattle.std.proofs.Common.{◌≡◌, Err, IfErr, subst, sym}
use Rattle.std.specs.Io.KnownBytes.{Appends}
use Rattle.std.specs.List.{list_any}
use Rattle.std.specs.Prelude.{⊤}
use Rattle.command_inputs.specs.Begun.{BeginsPrinted}
use Rattle.command_inputs.specs.Printed.{PrintsUnlessDenied}
use Rattle.output.specs.Begun.{AppendsBeginning}
use Rattle.log_streams.specs.Made.{AreMade}
use Rattle.log_streams.specs.Refusing.{MayStop}
use Rattle.log_commands.specs.Checking.{WritesFirstLines, WritesLines, status_with}
use Rattle.log_commands.specs.Most.{most_of}
use Rattle.log_commands.specs.steps.Checked.{IsVerdictOnLegal, Verdict, all_lines, input_in, is_refused}
use Rattle.log_commands.proofs.CheckedLogs.{lines_cut, lines_first, lines_unread, lines_whole}
use Rattle.log_commands.proofs.checking.check_all.Goals.{After-write_logs, In-Ok}
use Rattle.log_commands.proofs.checking.check_all.Goals as goal

-- What was made of the logs.
made : (g : _) (c : After-write_logs g)
    → AreMade (λ hart. IsVerdictOnLegal) (λ events row (verdict : Verdict). verdict ≡ Err row)
    (g.F.Files.content c.args.files.now) c.args.input.now.program (most_of c.args.asked.now.long) c.args.asked.now.logs.items
    c.made_of_logs-verdicts.result.made.items c.made_of_logs-verdicts.result.end
made g c =
    subst (λ paths. AreMade (λ hart. IsVerdictOnLegal) (λ events row (verdict : Verdict). verdict ≡ Err row)
    (g.F.Files.content c.args.files.now) c.args.input.now.program (most_of c.args.asked.now.long) paths
    c.made_of_logs-verdicts.result.made.items c.made_of_logs-verdicts.result.end) c.as_slice-paths.ensures.value
    (subst (λ most. AreMade (λ hart. IsVerdictOnLegal) (λ events row (verdict : Verdict). verdict ≡ Err row)
    (g.F.Files.content c.args.files.now) c.args.input.now.program most c.as_slice-paths.result.now
    c.made_of_logs-verdicts.result.made.items c.made_of_logs-verdicts.result.end) c.most_of-most.ensures
    c.made_of_logs-verdicts.ensures.made)

-- A prefix of the lines was written.
cut : (g : _) (c : After-write_logs g) → BeginsPrinted
    (WritesFirstLines (most_of c.args.asked.now.long) (g.F.Files.content c.args.files.now) c.args.asked.now.explain
    (input_in c.args.input.now) c.args.asked.now.logs.items)
    (g.O.Write.contents c.args.out.now) (g.O.Write.contents c.write_logs.new.out)
cut g c =
    let old = g.O.Write.contents c.args.out.now in
    let new = g.O.Write.contents c.write_logs.new.out in
    let asked = c.args.asked.now in
    let input = input_in c.args.input.now in
    let paths = c.args.asked.now.logs.items in
    let result = c.made_of_logs-verdicts.result in
    lines_cut (most_of asked.long) (g.F.Files.content c.args.files.now) asked.explain input paths result.made.items
    result.end (made g c) old new
    (subst (λ paths. AppendsBeginning (all_lines asked.explain input paths result.made.items) old new)
    c.as_slice-paths.ensures.value
    (subst (λ verdicts. AppendsBeginning (all_lines asked.explain input c.as_slice-paths.result.now verdicts) old new)
    c.as_slice.ensures.value c.write_logs.ensures.begun))

-- The lines were written.
written : (g : _) (c : In-Ok g) → Appends (g.O.Write.contents c.args.out.now) (g.O.Write.contents c.write_logs.new.out)
    (all_lines c.args.asked.now.explain (input_in c.args.input.now) c.args.asked.now.logs.items
    c.made_of_logs-verdicts.result.made.items)
written g c =
    subst
    (λ paths. Appends (g.O.Write.contents c.args.out.now) (g.O.Write.contents c.write_logs.new.out)
    (all_lines c.args.asked.now.explain (input_in c.args.input.now) paths c.made_of_logs-verdicts.result.made.items))
    c.as_slice-paths.ensures.value
    (subst
    (λ verdicts. Appends (g.O.Write.contents c.args.out.now) (g.O.Write.contents c.write_logs.new.out)
    (all_lines c.args.asked.now.explain (input_in c.args.input.now) c.as_slice-paths.result.now verdicts))
    c.as_slice.ensures.value c.in-Ok.ensures.text)

pub returns-in-Err-clause-cut : goal.returns-in-Err-clause-cut
returns-in-Err-clause-cut g c = cut g (goal.at.returns-in-Err-clause-cut g c).After-write_logs

pub returns-in-Ok-end-clause-cut : goal.returns-in-Ok-end-clause-cut
returns-in-Ok-end-clause-cut g c = cut g (goal.at.returns-in-Ok-end-clause-cut g c).After-write_logs

pub returns-clause-cut : goal.returns-clause-cut
returns-clause-cut g c = cut g (goal.at.returns-clause-cut g c).After-write_logs

pub returns-in-Ok-end-clause-printed : goal.returns-in-Ok-end-clause-printed
returns-in-Ok-end-clause-printed g c =
    let asked = c.args.asked.now in
    let result = c.made_of_logs-verdicts.result in
    let is = subst (λ verdicts. c.in-Ok.status ≡ status_with (list_any is_refused verdicts))
    c.as_slice.ensures.value c.in-Ok.ensures.ended in
    lines_whole (most_of asked.long) (g.F.Files.content c.args.files.now) asked.explain (input_in c.args.input.now)
    c.args.asked.now.logs.items result.made.items result.end
    (made g (goal.at.returns-in-Ok-end-clause-printed g c).After-write_logs) (g.O.Write.contents c.args.out.now)
    (g.O.Write.contents c.write_logs.new.out) c.in-Ok.status c.in-Ok-end.is is
    (written g (goal.at.returns-in-Ok-end-clause-printed g c).In-Ok)

pub returns-clause-printed : goal.returns-clause-printed
returns-clause-printed g c =
    let content = g.F.Files.content c.args.files.now in
    let asked = c.args.asked.now in
    let result = c.made_of_logs-verdicts.result in
    let old = g.O.Write.contents c.args.out.now in
    let new = g.O.Write.contents c.write_logs.new.out in
    let may = subst (λ end. IfErr end (λ fault. MayStop ⊥ fault.why)) c.in-Err-end.is
    c.made_of_logs-verdicts.ensures.refused in
    subst (λ why. PrintsUnlessDenied
    (WritesLines (most_of asked.long) content asked.explain (input_in c.args.input.now) c.args.asked.now.logs.items) ⊤ (Err why) old new)
    (sym c.of_stop.ensures)
    (lines_unread (most_of asked.long) content asked.explain (input_in c.args.input.now) c.args.asked.now.logs.items result.made.items
    result.end (made g (goal.at.returns-clause-printed g c).After-write_logs) old new c.in-Err-end.fault
    c.in-Err-end.is may (written g (goal.at.returns-clause-printed g c).In-Ok))

pub returns-clause-begun : goal.returns-clause-begun
returns-clause-begun g c = λ memory.
    let asked = c.args.asked.now in
    let result = c.made_of_logs-verdicts.result in
    lines_first (most_of asked.long) (g.F.Files.content c.args.files.now) asked.explain (input_in c.args.input.now)
    c.args.asked.now.logs.items result.made.items result.end (made g (goal.at.returns-clause-begun g c).After-write_logs)
    (g.O.Write.contents c.args.out.now) (g.O.Write.contents c.write_logs.new.out)
    (written g (goal.at.returns-clause-begun g c).In-Ok)
