-- The prover tries no chain of steps by itself: what was found of the input is handed to it.
use Rattle.std.proofs.Common.{Err, arith, ◌≡◌, subst}
use Rattle.std.proofs.lemmas.Grind.{common_steps}
use Rattle.command_inputs.specs.FurtherPieces.{base_number}
use Rattle.command_inputs.specs.OnlyHarts.{asked_harts}
use Rattle.command_inputs.specs.Order.{format_base_or_only_fault}
use Rattle.command_inputs.proofs.FirstSteps.{early_ends, passes}
use Rattle.capture_commands.specs.Listed.{CanListInput, IsListInput, ListsInput, ListsInputInPart, ListsInPart}
use Rattle.capture_commands.specs.Listed.{Lists}
use Rattle.capture_commands.specs.steps.Inputs.{lent_in, owned_in}
use Rattle.capture_commands.proofs.InputRuns.{in_either, input_leads, input_printed, no_input}
use Rattle.command_inputs.proofs.Beginnings.{cut_leads}
use Rattle.capture_commands.proofs.ListedRuns.{memory_leads}
use Rattle.capture_commands.proofs.message_listing.list.Goals as goal

pub returns-in_err-input-clause-early : goal.returns-in_err-input-clause-early
returns-in_err-input-clause-early g c =
    let asked = c.args.asked.now in
    let why = c.in_err-input.field-0.0 in
    let is : c.from_residual.result ≡ Err why = grind (arith, common_steps) in
    early_ends (format_base_or_only_fault asked.format (base_number asked.program) (asked_harts asked.only))
    c.read_input.result why c.from_residual.result c.in_err-input.was is c.read_input.ensures.early

pub returns-in_err-input-clause-printed : goal.returns-in_err-input-clause-printed
returns-in_err-input-clause-printed g c =
    let asked = c.args.asked.now in
    let content = g.F.Files.content c.args.files.now in
    let why = c.in_err-input.field-0.0 in
    let is : c.from_residual.result ≡ Err why = grind (arith, common_steps) in
    no_input (IsListInput content asked) (ListsInput asked) (CanListInput asked) (g.O.Write.contents c.args.out.now) why
    c.from_residual.result is c.in_err-input.ensures.lacked

pub returns-clause-early : goal.returns-clause-early
returns-clause-early g c =
    let asked = c.args.asked.now in
    passes (format_base_or_only_fault asked.format (base_number asked.program) (asked_harts asked.only))
    c.read_input.result c.in_ok-input.input c.write_listed.result c.in_ok-input.was c.read_input.ensures.early

pub returns-clause-printed : goal.returns-clause-printed
returns-clause-printed g c =
    let asked = c.args.asked.now in
    let content = g.F.Files.content c.args.files.now in
    let input = c.in_ok-input.input in
    input_printed (IsListInput content asked) (ListsInput asked) (CanListInput asked) (g.O.Write.contents c.args.out.now)
    (g.O.Write.contents c.write_listed.new.out) (lent_in c.lent-lent.result) (owned_in input) c.lent-lent.ensures
    c.in_ok-input.ensures.found c.write_listed.result c.write_listed.ensures.printed

pub returns-clause-untouched : goal.returns-clause-untouched
returns-clause-untouched g c =
    in_either (λ refused. absurd (c.write_listed.ensures.never_refused refused))
    (λ both. c.write_listed.ensures.untouched both.0 both.1)

pub returns-clause-begun : goal.returns-clause-begun
returns-clause-begun g c = λ memory.
    let asked = c.args.asked.now in
    let content = g.F.Files.content c.args.files.now in
    let input = c.in_ok-input.input in
    let old = g.O.Write.contents c.args.out.now in
    let new = g.O.Write.contents c.write_listed.new.out in
    memory_leads (ListsInput asked (lent_in c.lent-lent.result)) (Lists content asked)
    (input_leads (IsListInput content asked) (ListsInput asked) (CanListInput asked) old new (lent_in c.lent-lent.result)
    (owned_in input) c.lent-lent.ensures c.in_ok-input.ensures.found) old new (c.write_listed.ensures.begun memory)

pub returns-clause-cut : goal.returns-clause-cut
returns-clause-cut g c =
    let asked = c.args.asked.now in
    let content = g.F.Files.content c.args.files.now in
    let input = c.in_ok-input.input in
    cut_leads (ListsInputInPart asked (lent_in c.lent-lent.result)) (ListsInPart content asked)
    (g.O.Write.contents c.args.out.now) (g.O.Write.contents c.write_listed.new.out)
    (λ printed part. (
      owned_in input,
      c.in_ok-input.ensures.found,
      subst (λ input. ListsInputInPart asked input printed) c.lent-lent.ensures part,
    )) c.write_listed.ensures.cut
