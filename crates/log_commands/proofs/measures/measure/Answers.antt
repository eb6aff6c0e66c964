-- The prover tries no chain of steps by itself: what each step found is handed to it, in order.
use Rattle.std.proofs.Common.{◌≡◌, ◌∙◌, All, ap, inr, length, refl, subst, sym, arith, Ok, Err, List}
use Rattle.std.proofs.lemmas.Grind.{common_steps}
use Rattle.std.specs.Io.KnownBytes.{Appends}
use Rattle.std.specs.Prelude.{⊤, OnOk}
use Rattle.legalpath.specs.ProgramLog.{ProgramLog}
use Rattle.captures.specs.Bounds.{AreWithin, most_counted}
use Rattle.captures.specs.Table.{measures_table, table_of}
use Rattle.message.specs.Version.{most_harts}
use Rattle.message.specs.declared.header.Version.TheVariants.{Two}
use Rattle.output.specs.Begun.{AppendsBeginning}
use Rattle.command_inputs.specs.FurtherPieces.{base_number}
use Rattle.command_inputs.specs.FoundLogs.{AreAskedLogsUpTo}
use Rattle.command_inputs.specs.Order.{logs_fault}
use Rattle.command_inputs.specs.Printed.{First}
use Rattle.command_inputs.specs.declared.status.Status.TheVariants.{Whole}
use Rattle.command_inputs.proofs.Beginnings.{cut_leads, printed_begun}
use Rattle.command_inputs.proofs.FirstSteps.{early_ends, logs_end, logs_there, no_logs, passes}
use Rattle.command_inputs.proofs.Runs as runs
use Rattle.log_commands.specs.Faults.{Once}
use Rattle.log_commands.specs.declared.reason.LogReason.{LogReason}
use Rattle.log_commands.specs.Measuring.{WritesTable}
use Rattle.log_commands.specs.Most.{most_of}
use Rattle.log_commands.proofs.MadeLogs.{measures_each, measures_within}
use Rattle.log_commands.proofs.measures.measure.Goals.{After-write_table}
use Rattle.log_commands.proofs.measures.measure.Goals as goal

pub returns-in_err-program-clause-early : goal.returns-in_err-program-clause-early
returns-in_err-program-clause-early g c =
    let asked = c.args.asked.now in
    let why = c.in_err-program.field-0.0 in
    let is : c.from_residual.result ≡ Err why = grind (arith, common_steps) in
    early_ends (logs_fault (most_harts Two) (base_number asked.program) (length asked.logs.items))
    c.asked_program.result why c.from_residual.result c.in_err-program.was is c.asked_program.ensures.early

pub returns-in_err-program-clause-printed : goal.returns-in_err-program-clause-printed
returns-in_err-program-clause-printed g c =
    let content = g.F.Files.content c.args.files.now in
    let asked = c.args.asked.now in
    let why = c.in_err-program.field-0.0 in
    let out = g.O.Write.contents c.args.out.now in
    let is : c.from_residual.result ≡ Err why = grind (arith, common_steps) in
    no_logs (most_of asked.long) content (most_harts Two) asked.program asked.logs.items
    (Once (AreAskedLogsUpTo (most_of asked.long) content (most_harts Two) asked.program asked.logs.items) (λ _. ⊤))
    out why c.from_residual.result is (WritesTable asked) c.in_err-program.ensures.fault

pub returns-in_err-measures-clause-early : goal.returns-in_err-measures-clause-early
returns-in_err-measures-clause-early g c =
    let asked = c.args.asked.now in
    passes (logs_fault (most_harts Two) (base_number asked.program) (length asked.logs.items))
    c.asked_program.result c.in_ok-program.program c.from_residual-in_err-measures.result c.in_ok-program.was
    c.asked_program.ensures.early

pub returns-in_err-measures-clause-printed : goal.returns-in_err-measures-clause-printed
returns-in_err-measures-clause-printed g c =
    let content = g.F.Files.content c.args.files.now in
    let asked = c.args.asked.now in
    let why = c.in_err-measures.field-0.0 in
    let out = g.O.Write.contents c.args.out.now in
    let is : c.from_residual-in_err-measures.result ≡ Err why = grind (arith, common_steps) in
    logs_end (most_of asked.long) content (most_harts Two) asked.program asked.logs.items c.as_slice-paths.result.now
    c.as_slice-paths.ensures.value
    (Once (AreAskedLogsUpTo (most_of asked.long) content (most_harts Two) asked.program asked.logs.items) (λ _. ⊤))
    out why c.from_residual-in_err-measures.result is (WritesTable asked) c.in_ok-program.program
    (g.F.Files.content c.asked_program.new.files) c.in_ok-program.ensures.program c.in_ok-program.ensures.kept
    c.in_err-measures.ensures.fault

pub write_table-requires-clause-within : goal.write_table-requires-clause-within
write_table-requires-clause-within g c =
    let asked = c.args.asked.now in
    let made = c.in_ok-measures.ensures.logs in
    subst (All (AreWithin most_counted)) (sym c.as_slice.ensures.value)
    (measures_within asked.period asked.mode 0 made.logs c.in_ok-measures.measures.items made.each)

pub returns-clause-early : goal.returns-clause-early
returns-clause-early g c =
    let asked = c.args.asked.now in
    passes (logs_fault (most_harts Two) (base_number asked.program) (length asked.logs.items))
    c.asked_program.result c.in_ok-program.program c.write_table.result c.in_ok-program.was
    c.asked_program.ensures.early

module _ (g : _) (c : After-write_table g) where
  -- The logs that were found.
  abbrev logs : List ProgramLog
  logs = c.in_ok-measures.ensures.logs.logs

  there : AreAskedLogsUpTo {W = LogReason} (most_of c.args.asked.now.long) (g.F.Files.content c.args.files.now)
      (most_harts Two) c.args.asked.now.program c.args.asked.now.logs.items (Ok logs)
  there =
      let asked = c.args.asked.now in
      logs_there (most_of asked.long) (g.F.Files.content c.args.files.now)
      (most_harts Two) asked.program asked.logs.items
      c.as_slice-paths.result.now c.as_slice-paths.ensures.value c.in_ok-program.program
      (g.F.Files.content c.asked_program.new.files) (Ok logs) c.in_ok-program.ensures.program
      c.in_ok-program.ensures.kept c.in_ok-measures.ensures.logs.legal

  -- What is written of them is their table.
  text_is : table_of c.as_slice.result.now ≡ measures_table c.args.asked.now.period c.args.asked.now.mode logs
  text_is =
      let asked = c.args.asked.now in
      ap table_of (c.as_slice.ensures.value
      ∙ measures_each asked.period asked.mode 0 logs c.in_ok-measures.measures.items
      c.in_ok-measures.ensures.logs.each)

pub returns-clause-printed : goal.returns-clause-printed
returns-clause-printed g c =
    let at = (goal.at.returns-clause-printed g c).After-write_table in
    let asked = c.args.asked.now in
    let finds = AreAskedLogsUpTo {W = LogReason} (most_of asked.long) (g.F.Files.content c.args.files.now)
    (most_harts Two) asked.program asked.logs.items in
    let logs = logs g at in
    let ended = c.write_table.result in
    let old = g.O.Write.contents c.args.out.now in
    let new = g.O.Write.contents c.write_table.new.out in
    runs.leads_on (WritesTable asked logs) (First finds (WritesTable asked)) ⊤ (Once finds (λ _. ⊤)) ended old new
    (λ printed is. (Ok logs, there g at, is)) (λ is. (logs, there g at, is))
    (runs.written (WritesTable asked logs) ⊤ (measures_table asked.period asked.mode logs) Whole ended old new refl tt
    c.write_table.ensures.fault c.write_table.ensures.ended
    (subst (λ text. OnOk ended (Appends old new text)) (text_is g at) c.write_table.ensures.text))

pub returns-clause-cut : goal.returns-clause-cut
returns-clause-cut g c =
    let at = (goal.at.returns-clause-cut g c).After-write_table in
    let asked = c.args.asked.now in
    let finds = AreAskedLogsUpTo {W = LogReason} (most_of asked.long) (g.F.Files.content c.args.files.now)
    (most_harts Two) asked.program asked.logs.items in
    let logs = logs g at in
    let old = g.O.Write.contents c.args.out.now in
    let new = g.O.Write.contents c.write_table.new.out in
    cut_leads (WritesTable asked logs) (First finds (WritesTable asked)) old new
    (λ printed is. (Ok logs, there g at, is))
    (inr (printed_begun (WritesTable asked logs) (measures_table asked.period asked.mode logs) (Ok Whole) old new refl
    (subst (λ text. AppendsBeginning text old new) (text_is g at) c.write_table.ensures.begun)))
