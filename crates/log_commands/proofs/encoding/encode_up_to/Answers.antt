-- The prover tries no chain of steps by itself: what each step found is handed to it, in order.
use Rattle.std.proofs.Common.{◌≡◌, ◌≤◌, ◌∙◌, ◌+◌, ℕ, Global, List, Ok, Err, Vec, ap, arith, inr, length, refl, subst}
use Rattle.std.proofs.Common.{sym}
use Rattle.std.proofs.lemmas.Grind.{common_steps}
use Rattle.std.specs.Prelude.{⊤}
use Rattle.legalpath.specs.ProgramLog.{ProgramLog}
use Rattle.message.specs.Version.{most_harts}
use Rattle.command_inputs.specs.FurtherPieces.{base_number}
use Rattle.command_inputs.specs.Order.{logs_fault}
use Rattle.command_inputs.specs.declared.status.Status.TheVariants.{Whole}
use Rattle.command_inputs.proofs.Beginnings.{cut_leads, printed_begun}
use Rattle.command_inputs.proofs.FirstSteps.{early_ends, logs_end, logs_there, no_logs, passes}
use Rattle.command_inputs.proofs.Runs as runs
use Rattle.log_commands.specs.Encoding.{AreLogsOf, WritesMessages, written}
use Rattle.log_commands.specs.Most.{most_of}
use Rattle.log_commands.specs.Parts.{all_harts, first_hart}
use Rattle.log_commands.specs.steps.Made.{AreAskedMessages}
use Rattle.log_commands.specs.steps.Parts.{CanEncodeUpTo, EncodesUpTo}
use Rattle.log_commands.proofs.Headers.{harts_in_part, logs_in_part}
use Rattle.log_commands.proofs.MixedLogs.{long_logs, written_or_denied}
use Rattle.log_commands.proofs.encoding.encode_up_to.Goals.{After-write_messages}
use Rattle.log_commands.proofs.encoding.encode_up_to.Goals as goal

pub write_messages-requires-clause-some : goal.write_messages-requires-clause-some
write_messages-requires-clause-some g c =
    let asked = c.args.asked.now in
    let made = c.in_ok-messages.messages.items in
    let count = c.in_ok-messages.ensures.count ∙ ap length c.as_slice-paths.ensures.value in
    let some : 1 ≤ length made = omega (arith, count, c.in_ok-program.ensures.count.0) in
    let few : length made ≤ c.args.most = omega (arith, count, c.in_ok-program.ensures.count.1) in
    subst (λ (messages : List (Vec ℕ Global)). 1 ≤ all_harts asked.of (length messages)) (sym c.as_slice.ensures.value)
    (harts_in_part asked (length made) c.args.most c.requires.most some few).0

pub write_messages-requires-clause-few : goal.write_messages-requires-clause-few
write_messages-requires-clause-few g c =
    let asked = c.args.asked.now in
    let made = c.in_ok-messages.messages.items in
    let count = c.in_ok-messages.ensures.count ∙ ap length c.as_slice-paths.ensures.value in
    let some : 1 ≤ length made = omega (arith, count, c.in_ok-program.ensures.count.0) in
    let few : length made ≤ c.args.most = omega (arith, count, c.in_ok-program.ensures.count.1) in
    subst (λ (messages : List (Vec ℕ Global)). all_harts asked.of (length messages) ≤ most_harts asked.version)
    (sym c.as_slice.ensures.value) (harts_in_part asked (length made) c.args.most c.requires.most some few).1

pub write_messages-requires-clause-room : goal.write_messages-requires-clause-room
write_messages-requires-clause-room g c =
    let asked = c.args.asked.now in
    let made = c.in_ok-messages.messages.items in
    let count = c.in_ok-messages.ensures.count ∙ ap length c.as_slice-paths.ensures.value in
    let few : length made ≤ c.args.most = omega (arith, count, c.in_ok-program.ensures.count.1) in
    subst (λ (messages : List (Vec ℕ Global)).
    first_hart asked.first + length messages ≤ all_harts asked.of (length messages)) (sym c.as_slice.ensures.value)
    (logs_in_part asked (length made) c.args.most c.requires.most few)

pub returns-in_err-program-clause-early : goal.returns-in_err-program-clause-early
returns-in_err-program-clause-early g c =
    let asked = c.args.asked.now in
    let why = c.in_err-program.field-0.0 in
    let is : c.from_residual.result ≡ Err why = grind (arith, common_steps) in
    early_ends (logs_fault c.args.most (base_number asked.program) (length asked.logs.items)) c.asked_program.result
    why c.from_residual.result c.in_err-program.was is c.asked_program.ensures.early

pub returns-in_err-program-clause-printed : goal.returns-in_err-program-clause-printed
returns-in_err-program-clause-printed g c =
    let content = g.F.Files.content c.args.files.now in
    let asked = c.args.asked.now in
    let most = c.args.most in
    let why = c.in_err-program.field-0.0 in
    let out = g.O.Write.contents c.args.out.now in
    let is : c.from_residual.result ≡ Err why = grind (arith, common_steps) in
    no_logs (most_of asked.long) content most asked.program asked.logs.items (CanEncodeUpTo content asked most) out why
    c.from_residual.result is (WritesMessages asked) c.in_err-program.ensures.fault

pub returns-in_err-messages-clause-early : goal.returns-in_err-messages-clause-early
returns-in_err-messages-clause-early g c =
    let asked = c.args.asked.now in
    passes (logs_fault c.args.most (base_number asked.program) (length asked.logs.items)) c.asked_program.result
    c.in_ok-program.program c.from_residual-in_err-messages.result c.in_ok-program.was c.asked_program.ensures.early

pub returns-in_err-messages-clause-printed : goal.returns-in_err-messages-clause-printed
returns-in_err-messages-clause-printed g c =
    let content = g.F.Files.content c.args.files.now in
    let asked = c.args.asked.now in
    let most = c.args.most in
    let why = c.in_err-messages.field-0.0 in
    let out = g.O.Write.contents c.args.out.now in
    let is : c.from_residual-in_err-messages.result ≡ Err why = grind (arith, common_steps) in
    logs_end (most_of asked.long) content most asked.program asked.logs.items
    c.as_slice-paths.result.now c.as_slice-paths.ensures.value (CanEncodeUpTo content asked most) out why
    c.from_residual-in_err-messages.result is (WritesMessages asked) c.in_ok-program.program
    (g.F.Files.content c.asked_program.new.files) c.in_ok-program.ensures.program c.in_ok-program.ensures.kept
    c.in_err-messages.ensures.fault

pub returns-clause-early : goal.returns-clause-early
returns-clause-early g c =
    let asked = c.args.asked.now in
    passes (logs_fault c.args.most (base_number asked.program) (length asked.logs.items)) c.asked_program.result
    c.in_ok-program.program c.write_messages.result c.in_ok-program.was c.asked_program.ensures.early

module _ (g : _) (c : After-write_messages g) where
  -- The logs that were found.
  abbrev logs : List ProgramLog
  logs = c.in_ok-messages.ensures.logs.logs

  there : AreLogsOf (g.F.Files.content c.args.files.now) c.args.asked.now c.args.most (Ok logs)
  there =
      let asked = c.args.asked.now in
      logs_there (most_of asked.long) (g.F.Files.content c.args.files.now) c.args.most asked.program
      asked.logs.items c.as_slice-paths.result.now c.as_slice-paths.ensures.value c.in_ok-program.program
      (g.F.Files.content c.asked_program.new.files) (Ok logs) c.in_ok-program.ensures.program
      c.in_ok-program.ensures.kept c.in_ok-messages.ensures.logs.legal

  -- Their messages were made.
  made : AreAskedMessages c.args.asked.now logs c.as_slice.result.now
  made =
      let asked = c.args.asked.now in
      subst (AreAskedMessages asked logs) (sym c.as_slice.ensures.value)
      (long_logs asked.long logs c.in_ok-messages.ensures.logs.few, c.in_ok-messages.ensures.logs.each)

pub returns-clause-printed : goal.returns-clause-printed
returns-clause-printed g c =
    let at = (goal.at.returns-clause-printed g c).After-write_messages in
    let content = g.F.Files.content c.args.files.now in
    let asked = c.args.asked.now in
    let most = c.args.most in
    let logs = logs g at in
    let ended = c.write_messages.result in
    let old = g.O.Write.contents c.args.out.now in
    let new = g.O.Write.contents c.write_messages.new.out in
    runs.leads_on (WritesMessages asked logs) (EncodesUpTo content asked most) ⊤ (CanEncodeUpTo content asked most)
    ended old new
    (λ printed is. (Ok logs, there g at, is)) (λ is. (logs, there g at, is))
    (written_or_denied (WritesMessages asked logs) ⊤ (written asked logs) Whole ended old new refl tt
    c.write_messages.ensures.fault c.write_messages.ensures.ended
    (c.write_messages.ensures.text logs (made g at)))

pub returns-clause-cut : goal.returns-clause-cut
returns-clause-cut g c =
    let at = (goal.at.returns-clause-cut g c).After-write_messages in
    let content = g.F.Files.content c.args.files.now in
    let asked = c.args.asked.now in
    let logs = logs g at in
    let old = g.O.Write.contents c.args.out.now in
    let new = g.O.Write.contents c.write_messages.new.out in
    cut_leads (WritesMessages asked logs) (EncodesUpTo content asked c.args.most) old new
    (λ printed is. (Ok logs, there g at, is))
    (inr (printed_begun (WritesMessages asked logs) (written asked logs) (Ok Whole) old new refl
    (c.write_messages.ensures.begun logs (made g at))))
