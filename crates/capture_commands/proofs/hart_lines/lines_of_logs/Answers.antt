-- What is made of logs comes by their places: the lemmas on all of them are handed to the prover.
use Rattle.std.proofs.Common.{◌≡◌, ◌∙◌, ◌⊎◌, Err, Ok, ap, arith, length, subst, sym}
use Rattle.std.proofs.lemmas.Grind.{common_steps}
use Rattle.command_inputs.proofs.StreamLemmas.{first_refused}
use Rattle.capture_commands.specs.Faults.{Fault}
use Rattle.command_inputs.specs.Faults.{stop_fault}
use Rattle.command_inputs.specs.FoundLogs.{AreLegalLogsUpTo}
use Rattle.command_inputs.specs.declared.fault.Fault.TheVariants as fault
use Rattle.comparing.specs.Compared.{gots_by, of_harts}
use Rattle.parallel_decode.specs.Placed.{ArePlacedLogs}
use Rattle.log_streams.specs.Made.{AreMade}
use Rattle.rvclass.specs.Fetch.{words_of}
use Rattle.capture_commands.specs.Comparison.{rows_of}
use Rattle.comparing.specs.steps.Held.{count_in}
use Rattle.capture_commands.specs.steps.Lines.{AreLinesOfLogs}
use Rattle.capture_commands.specs.steps.Surveyed.{gots_in}
use Rattle.capture_commands.proofs.FoundHarts.{gots_found}
use Rattle.capture_commands.proofs.LinesMade.{OfEvents, lines_made}
use Rattle.capture_commands.proofs.hart_lines.lines_of_logs.Goals as goal

pub returns-in-Ok-clause-lines : goal.returns-in-Ok-clause-lines
returns-in-Ok-clause-lines g c = λ lists are.
    let content = g.F.Files.content c.args.files.now in
    let program = c.args.input.now.program.now in
    let words = words_of program in
    let asked = c.args.asked.now in
    let paths = c.as_slice-paths.result.now in
    let made = c.made_of_logs-made.result.made.items in
    let rows = c.rows_of-rows.result in
    let found = c.args.found.now in
    let messages = found.messages.now in
    let places = c.as_slice-places.result.now in
    let closed = c.as_slice-closed.result.now in
    let counts = c.as_slice-counts.result.now in
    let is : c.made_of_logs-made.result.end ≡ Ok c.in-Ok.field-0 = grind (arith, common_steps) in
    let flags : length closed ≡ length lists = ap length c.as_slice-closed.ensures.value ∙ are.flags in
    let placed = subst (λ places. ArePlacedLogs words messages places lists) (sym c.as_slice-places.ensures.value)
    are.placed in
    let range = c.args.input.now.only in
    let same : of_harts range (gots_by (count_in counts) 0 lists closed) ≡ gots_in range lists found =
    ap (of_harts range) (ap (gots_by (count_in counts) 0 lists) c.as_slice-closed.ensures.value
    ∙ ap (λ counts. gots_by (count_in counts) 0 lists found.closed.items) c.as_slice-counts.ensures.value) in
    let logs = lines_made rows content program words messages places range c.requires.few counts lists closed flags
    placed paths made c.in-Ok.field-0
    (ap length c.as_slice-paths.ensures.value ∙ c.requires.many ∙ sym (gots_found range words found lists are) ∙ sym (ap length same))
    (subst
    (λ first. AreMade (OfEvents words messages places program counts closed first) (λ events row line. ⊥) content
    program rows paths made (Ok c.in-Ok.field-0)) c.from.ensures
    (subst (AreMade (OfEvents words messages places program counts closed c.from.result) (λ events row line. ⊥) content
    program rows paths made) is c.made_of_logs-made.ensures.made)) in
    subst (λ gots. AreLinesOfLogs (rows_of asked.long) content program asked.logs.items range.first gots made) same
    (subst (λ paths. AreLinesOfLogs (rows_of asked.long) content program paths range.first
    (of_harts range (gots_by (count_in counts) 0 lists closed)) made) c.as_slice-paths.ensures.value
    (subst (λ rows. AreLinesOfLogs rows content program paths range.first
    (of_harts range (gots_by (count_in counts) 0 lists closed)) made)
    c.rows_of-rows.ensures logs))

pub returns-in-Err-clause-fault : goal.returns-in-Err-clause-fault
returns-in-Err-clause-fault g c =
    let content = g.F.Files.content c.args.files.now in
    let program = c.args.input.now.program.now in
    let words = words_of program in
    let asked = c.args.asked.now in
    let paths = c.as_slice-paths.result.now in
    let made = c.made_of_logs-made.result.made.items in
    let rows = c.rows_of-rows.result in
    let messages = c.args.found.now.messages.now in
    let places = c.as_slice-places.result.now in
    let closed = c.as_slice-closed.result.now in
    let counts = c.as_slice-counts.result.now in
    let end = c.in-Err.field-0 in
    let is : c.made_of_logs-made.result.end ≡ Err end = grind (arith, common_steps) in
    let why : Fault = stop_fault end.path end.why in
    subst (λ why. (why ≡ fault.Memory) ⊎ AreLegalLogsUpTo (rows_of asked.long) content program asked.logs.items (Err why))
    (sym c.of_stop.ensures)
    (subst (λ paths. (why ≡ fault.Memory) ⊎ AreLegalLogsUpTo (rows_of asked.long) content program paths (Err why))
    c.as_slice-paths.ensures.value
    (subst (λ rows. (why ≡ fault.Memory) ⊎ AreLegalLogsUpTo rows content program paths (Err why)) c.rows_of-rows.ensures
    (first_refused rows (OfEvents words messages places program counts closed c.from.result) (λ events row line. ⊥)
    (λ events row line none. none) content program paths made end
    (subst (AreMade (OfEvents words messages places program counts closed c.from.result) (λ events row line. ⊥) content
    program rows paths made) is c.made_of_logs-made.ensures.made))))
