-- The prover tries no chain of steps by itself: what was found of the input is handed to it.
use Rattle.std.proofs.Common.{Err, arith, ◌≡◌, subst}
use Rattle.std.proofs.lemmas.Grind.{common_steps}
use Rattle.command_inputs.specs.FurtherPieces.{base_number}
use Rattle.command_inputs.specs.OnlyHarts.{asked_harts}
use Rattle.command_inputs.specs.Order.{base_or_only_fault}
use Rattle.command_inputs.proofs.FirstSteps.{early_ends, passes}
use Rattle.capture_commands.specs.Comparing.{CanCompareInput, ComparesInput, IsCompareInput}
use Rattle.command_inputs.specs.Begun.{IsCutOf}
use Rattle.command_inputs.specs.Printed.{PrintsUnlessDenied}
use Rattle.capture_commands.specs.steps.Inputs.{lent_in, owned_in}
use Rattle.capture_commands.proofs.InputRuns.{input_cut, input_printed, no_input}
use Rattle.capture_commands.proofs.against_logs.compare.Goals as goal

pub returns-in_err-input-clause-early : goal.returns-in_err-input-clause-early
returns-in_err-input-clause-early g c =
    let asked = c.args.asked.now in
    let why = c.in_err-input.field-0.0 in
    let is : c.from_residual.result ≡ Err why = grind (arith, common_steps) in
    early_ends (base_or_only_fault (base_number asked.program) (asked_harts asked.only))
    c.read_input.result why c.from_residual.result c.in_err-input.was is c.read_input.ensures.early

pub returns-in_err-input-clause-printed : goal.returns-in_err-input-clause-printed
returns-in_err-input-clause-printed g c =
    let asked = c.args.asked.now in
    let content = g.F.Files.content c.args.files.now in
    let why = c.in_err-input.field-0.0 in
    let is : c.from_residual.result ≡ Err why = grind (arith, common_steps) in
    no_input (IsCompareInput content asked) (ComparesInput content asked) (CanCompareInput content asked) (g.O.Write.contents c.args.out.now) why
    c.from_residual.result is c.in_err-input.ensures.lacked

pub returns-clause-early : goal.returns-clause-early
returns-clause-early g c =
    let asked = c.args.asked.now in
    passes (base_or_only_fault (base_number asked.program) (asked_harts asked.only))
    c.read_input.result c.in_ok-input.input c.compare_input.result c.in_ok-input.was c.read_input.ensures.early

pub returns-clause-printed : goal.returns-clause-printed
returns-clause-printed g c =
    let asked = c.args.asked.now in
    let content = g.F.Files.content c.args.files.now in
    let input = c.in_ok-input.input in
    let printed = subst (λ known. PrintsUnlessDenied (ComparesInput known asked (lent_in c.lent-lent.result))
    (CanCompareInput known asked (lent_in c.lent-lent.result)) c.compare_input.result (g.O.Write.contents c.args.out.now)
    (g.O.Write.contents c.compare_input.new.out)) c.in_ok-input.ensures.kept c.compare_input.ensures.printed in
    input_printed (IsCompareInput content asked) (ComparesInput content asked) (CanCompareInput content asked) (g.O.Write.contents c.args.out.now)
    (g.O.Write.contents c.compare_input.new.out) (lent_in c.lent-lent.result) (owned_in input) c.lent-lent.ensures
    c.in_ok-input.ensures.found c.compare_input.result printed

pub returns-clause-cut : goal.returns-clause-cut
returns-clause-cut g c =
    let asked = c.args.asked.now in
    let content = g.F.Files.content c.args.files.now in
    let input = c.in_ok-input.input in
    let cut = subst (λ known. IsCutOf (ComparesInput known asked (lent_in c.lent-lent.result))
    (g.O.Write.contents c.args.out.now) (g.O.Write.contents c.compare_input.new.out)) c.in_ok-input.ensures.kept
    c.compare_input.ensures.cut in
    input_cut (IsCompareInput content asked) (ComparesInput content asked) (CanCompareInput content asked) (g.O.Write.contents c.args.out.now)
    (g.O.Write.contents c.compare_input.new.out) (lent_in c.lent-lent.result) (owned_in input) c.lent-lent.ensures
    c.in_ok-input.ensures.found cut
