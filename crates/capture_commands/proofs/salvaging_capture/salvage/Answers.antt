-- The prover tries no chain of steps by itself: what was found of the input is handed to it.
use Rattle.std.proofs.Common.{Err, arith, ◌≡◌}
use Rattle.std.proofs.lemmas.Grind.{common_steps}
use Rattle.command_inputs.specs.FurtherPieces.{base_number}
use Rattle.command_inputs.specs.OnlyHarts.{asked_harts}
use Rattle.command_inputs.specs.Order.{format_base_or_only_fault}
use Rattle.command_inputs.proofs.FirstSteps.{early_ends, passes}
use Rattle.capture_commands.specs.Salvaging.{CanSalvageInput, IsSalvageInput, SalvagesInput}
use Rattle.capture_commands.specs.steps.Inputs.{lent_in, owned_in}
use Rattle.capture_commands.proofs.InputRuns.{input_cut, input_printed, no_input}
use Rattle.capture_commands.proofs.salvaging_capture.salvage.Goals as goal

pub returns-in_err-input-clause-early : goal.returns-in_err-input-clause-early
returns-in_err-input-clause-early g c =
    let asked = c.args.asked.now in
    let why = c.in_err-input.field-0.0 in
    let is : c.from_residual.result ≡ Err why = grind (arith, common_steps) in
    early_ends (format_base_or_only_fault asked.format (base_number asked.program) (asked_harts asked.only))
    c.read_input.result why c.from_residual.result c.in_err-input.was is c.read_input.ensures.early

pub returns-in_err-input-clause-printed : goal.returns-in_err-input-clause-printed
returns-in_err-input-clause-printed g c =
    let asked = c.args.asked.now in
    let content = g.F.Files.content c.args.files.now in
    let why = c.in_err-input.field-0.0 in
    let is : c.from_residual.result ≡ Err why = grind (arith, common_steps) in
    no_input (IsSalvageInput content asked) (SalvagesInput asked) (CanSalvageInput asked) (g.O.Write.contents c.args.out.now) why
    c.from_residual.result is c.in_err-input.ensures.lacked

pub returns-clause-early : goal.returns-clause-early
returns-clause-early g c =
    let asked = c.args.asked.now in
    passes (format_base_or_only_fault asked.format (base_number asked.program) (asked_harts asked.only))
    c.read_input.result c.in_ok-input.input c.salvage_capture.result c.in_ok-input.was c.read_input.ensures.early

pub returns-clause-printed : goal.returns-clause-printed
returns-clause-printed g c =
    let asked = c.args.asked.now in
    let content = g.F.Files.content c.args.files.now in
    let input = c.in_ok-input.input in
    input_printed (IsSalvageInput content asked) (SalvagesInput asked) (CanSalvageInput asked) (g.O.Write.contents c.args.out.now)
    (g.O.Write.contents c.salvage_capture.new.out) (lent_in c.lent-lent.result) (owned_in input) c.lent-lent.ensures
    c.in_ok-input.ensures.found c.salvage_capture.result c.salvage_capture.ensures.printed

pub returns-clause-cut : goal.returns-clause-cut
returns-clause-cut g c =
    let asked = c.args.asked.now in
    let content = g.F.Files.content c.args.files.now in
    let input = c.in_ok-input.input in
    input_cut (IsSalvageInput content asked) (SalvagesInput asked) (CanSalvageInput asked) (g.O.Write.contents c.args.out.now)
    (g.O.Write.contents c.salvage_capture.new.out) (lent_in c.lent-lent.result) (owned_in input) c.lent-lent.ensures
    c.in_ok-input.ensures.found c.salvage_capture.ensures.cut
