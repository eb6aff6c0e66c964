-- The prover tries no chain of steps by itself: what each step found is handed to it, in order.
use Rattle.std.proofs.Common.{◌≡◌, inr, length, refl, subst, arith, Ok, Err}
use Rattle.std.proofs.lemmas.Grind.{common_steps}
use Rattle.std.specs.Prelude.{⊤}
use Rattle.message.specs.Version.{most_harts}
use Rattle.message.specs.declared.header.Version.TheVariants.{Two}
use Rattle.command_inputs.specs.FurtherPieces.{base_number}
use Rattle.command_inputs.specs.Begun.{BeginsPrinted, IsCutOf}
use Rattle.command_inputs.specs.Order.{logs_fault}
use Rattle.command_inputs.specs.Printed.{PrintsUnlessDenied}
use Rattle.command_inputs.specs.declared.fault.Fault.TheVariants as fault
use Rattle.command_inputs.proofs.Beginnings.{cut_kept}
use Rattle.command_inputs.proofs.FirstSteps.{early_ends, passes}
use Rattle.command_inputs.proofs.Runs.{ends_silently, goes_on, output_failed}
use Rattle.log_commands.specs.Checking.{AppendsFirstLines, CanCheck, Checks, ChecksFirst, IsCheckInput}
use Rattle.log_commands.specs.Checking.{WritesFirstLines, WritesLines}
use Rattle.log_commands.specs.Most.{most_of}
use Rattle.log_commands.specs.steps.Checked.{input_in}
use Rattle.log_commands.proofs.CheckedLogs.{lines_kept}
use Rattle.log_commands.proofs.checking.check.Goals.{After-flush}
use Rattle.log_commands.proofs.checking.check.Goals as goal

pub returns-in_err-input-clause-early : goal.returns-in_err-input-clause-early
returns-in_err-input-clause-early g c =
    let asked = c.args.asked.now in
    let why = c.in_err-input.field-0.0 in
    let is : c.from_residual.result ≡ Err why = grind (arith, common_steps) in
    early_ends (logs_fault (most_harts Two) (base_number asked.program) (length asked.logs.items))
    c.read_input.result why c.from_residual.result c.in_err-input.was is c.read_input.ensures.early

pub returns-in_err-flush-clause-early : goal.returns-in_err-flush-clause-early
returns-in_err-flush-clause-early g c =
    let asked = c.args.asked.now in
    passes (logs_fault (most_harts Two) (base_number asked.program) (length asked.logs.items))
    c.read_input.result c.in_ok-input.input c.from_residual-in_err-flush.result c.in_ok-input.was
    c.read_input.ensures.early

pub returns-clause-early : goal.returns-clause-early
returns-clause-early g c =
    let asked = c.args.asked.now in
    passes (logs_fault (most_harts Two) (base_number asked.program) (length asked.logs.items))
    c.read_input.result c.in_ok-input.input c.check_all-ended.result c.in_ok-input.was
    c.read_input.ensures.early

pub returns-in_err-input-clause-printed : goal.returns-in_err-input-clause-printed
returns-in_err-input-clause-printed g c =
    let content = g.F.Files.content c.args.files.now in
    let asked = c.args.asked.now in
    let why = c.in_err-input.field-0.0 in
    let is : c.from_residual.result ≡ Err why = grind (arith, common_steps) in
    ends_silently (Checks content asked) (CanCheck content asked) (IsCheckInput content asked (Err why)) why
    c.from_residual.result (g.O.Write.contents c.args.out.now) is c.in_err-input.ensures.lacked
    (λ none. (Err why, none, refl))

pub returns-in_err-flush-clause-printed : goal.returns-in_err-flush-clause-printed
returns-in_err-flush-clause-printed g c =
    let content = g.F.Files.content c.args.files.now in
    let asked = c.args.asked.now in
    let is : c.from_residual-in_err-flush.result ≡ Err fault.Output = grind (arith, common_steps) in
    output_failed (Checks content asked) (CanCheck content asked) c.from_residual-in_err-flush.result
    (g.O.Write.contents c.args.out.now) (g.O.Write.contents c.flush.new.self) is
    (input_in c.in_ok-input.input, c.in_ok-input.ensures.found, tt)

pub returns-clause-printed : goal.returns-clause-printed
returns-clause-printed g c =
    let contents = g.O.Write.contents in
    let asked = c.args.asked.now in
    let content = g.F.Files.content c.args.files.now in
    let input = input_in c.in_ok-input.input in
    let there = c.in_ok-input.ensures.found in
    let ended = c.check_all-ended.result in
    let mid = contents c.check_all-ended.new.out in
    let lines = subst (λ known. PrintsUnlessDenied (WritesLines (most_of asked.long) known asked.explain input
    asked.logs.items) ⊤ ended (contents c.args.out.now) mid)
    c.in_ok-input.ensures.kept c.check_all-ended.ensures.printed in
    goes_on (WritesLines (most_of asked.long) content asked.explain input asked.logs.items) (Checks content asked) ⊤
    (CanCheck content asked) ended
    (contents c.args.out.now) mid (contents c.flush.new.self)
    (λ printed lines. (Ok input, there, lines)) (input, there, tt)
    lines c.flush.ensures.bytes

pub returns-clause-begun : goal.returns-clause-begun
returns-clause-begun g c = λ memory.
    let contents = g.O.Write.contents in
    let asked = c.args.asked.now in
    let content = g.F.Files.content c.args.files.now in
    let input = input_in c.in_ok-input.input in
    let old = contents c.args.out.now in
    let mid = contents c.check_all-ended.new.out in
    let lines = subst (λ known. AppendsFirstLines (most_of asked.long) known asked.explain input asked.logs.items
    old mid)
    c.in_ok-input.ensures.kept (c.check_all-ended.ensures.begun memory) in
    inr (
      input,
      c.in_ok-input.ensures.found,
      lines_kept (most_of asked.long) content asked.explain input asked.logs.items old mid
          (contents c.flush.new.self) lines
          c.flush.ensures.bytes,
    )

-- Whatever the flush answers, a prefix of the lines of some first logs was written.
cut : (g : _) (c : After-flush g) → IsCutOf (ChecksFirst (g.F.Files.content c.args.files.now) c.args.asked.now)
    (g.O.Write.contents c.args.out.now) (g.O.Write.contents c.flush.new.self)
cut g c =
    let contents = g.O.Write.contents in
    let asked = c.args.asked.now in
    let content = g.F.Files.content c.args.files.now in
    let input = input_in c.in_ok-input.input in
    let old = contents c.args.out.now in
    let mid = contents c.check_all-ended.new.out in
    let new = contents c.flush.new.self in
    let lines = subst (λ known. BeginsPrinted (WritesFirstLines (most_of asked.long) known asked.explain input
    asked.logs.items) old mid)
    c.in_ok-input.ensures.kept c.check_all-ended.ensures.cut in
    inr (cut_kept (WritesFirstLines (most_of asked.long) content asked.explain input asked.logs.items)
    (ChecksFirst content asked) old
    mid new
    (λ printed lines. (input, c.in_ok-input.ensures.found, lines)) lines c.flush.ensures.bytes)

pub returns-in_err-flush-clause-cut : goal.returns-in_err-flush-clause-cut
returns-in_err-flush-clause-cut g c = cut g (goal.at.returns-in_err-flush-clause-cut g c).After-flush

pub returns-clause-cut : goal.returns-clause-cut
returns-clause-cut g c = cut g (goal.at.returns-clause-cut g c).After-flush
