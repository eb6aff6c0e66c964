-- The prover tries no chain of steps by itself: what each step found is handed to it, in order.
use Rattle.std.proofs.Common.{◌≡◌, Err, arith, inl}
use Rattle.std.proofs.lemmas.Grind.{common_steps}
use Rattle.command_inputs.proofs.Runs.{ends_silently}
use Rattle.capture_commands.specs.Comparing.{CanCompareHarts, ComparesHarts}
use Rattle.capture_commands.specs.steps.Inputs.{names_in}
use Rattle.capture_commands.proofs.ComparedRuns.{capture_cut, capture_printed}
use Rattle.capture_commands.proofs.ComparedRuns.{no_hart_ends}
use Rattle.capture_commands.proofs.against_logs.compare_input.Goals as goal

pub returns-in_err-check_harts_below-clause-printed : goal.returns-in_err-check_harts_below-clause-printed
returns-in_err-check_harts_below-clause-printed g c =
    let input = c.args.input.now in
    let why = c.in_err-check_harts_below.field-0.0 in
    let is : c.from_residual.result ≡ Err why = grind (arith, common_steps) in
    no_hart_ends (g.F.Files.content c.args.files.now) c.args.asked.now input.only input.program.now (names_in input)
    input.bytes.now why c.from_residual.result (g.O.Write.contents c.args.out.now) is c.in_err-check_harts_below.ensures.found

pub returns-in_err-found-clause-printed : goal.returns-in_err-found-clause-printed
returns-in_err-found-clause-printed g c =
    let content = g.F.Files.content c.args.files.now in
    let asked = c.args.asked.now in
    let input = c.args.input.now in
    let why = c.in_err-found.field-0.0 in
    let is : c.from_residual-in_err-found.result ≡ Err why = grind (arith, common_steps) in
    ends_silently (ComparesHarts content asked input.only input.program.now (names_in input) input.bytes.now)
    (CanCompareHarts content asked input.only input.program.now input.bytes.now) ⊥ why
    c.from_residual-in_err-found.result (g.O.Write.contents c.args.out.now) is (inl c.in_err-found.ensures.fault)
    (λ none. absurd none)

pub returns-clause-printed : goal.returns-clause-printed
returns-clause-printed g c =
    let input = c.args.input.now in
    capture_printed (g.F.Files.content c.args.files.now) c.args.asked.now input.only input.program.now (names_in input)
    input.bytes.now tt c.in_ok-check_harts_below.ensures.found c.compare_found.result (g.O.Write.contents c.args.out.now)
    (g.O.Write.contents c.compare_found.new.out) c.compare_found.ensures.printed

pub returns-clause-cut : goal.returns-clause-cut
returns-clause-cut g c =
    let input = c.args.input.now in
    capture_cut (g.F.Files.content c.args.files.now) c.args.asked.now input.only input.program.now (names_in input)
    input.bytes.now tt c.in_ok-check_harts_below.ensures.found (g.O.Write.contents c.args.out.now)
    (g.O.Write.contents c.compare_found.new.out) c.compare_found.ensures.cut
