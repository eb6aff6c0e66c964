-- The prover tries no chain of steps by itself: what each step found is handed to it, in order.
use Rattle.std.proofs.Common.{◌≡◌, Err, arith, refl}
use Rattle.std.proofs.lemmas.Grind.{common_steps}
use Rattle.command_inputs.proofs.Runs.{ends_silently}
use Rattle.capture_commands.specs.HartsFound.{HasHartFound}
use Rattle.capture_commands.specs.Listed.{CanTreat}
use Rattle.capture_commands.specs.ListedSalvaged.{TreatsHarts}
use Rattle.capture_commands.specs.steps.Inputs.{names_in}
use Rattle.capture_commands.proofs.salvaged_listing.list_salvaged.Goals as goal

pub returns-in_err-found-clause-printed : goal.returns-in_err-found-clause-printed
returns-in_err-found-clause-printed g c =
    let symbols = names_in c.args.input.now in
    let why = c.in_err-found.field-0.0 in
    let is : c.from_residual.result ≡ Err why = grind (arith, common_steps) in
    ends_silently (TreatsHarts c.args.asked.now.format c.args.asked.now.rows c.args.input.now.only c.args.asked.now.harts c.args.input.now.program.now symbols c.args.input.now.bytes.now)
    (CanTreat c.args.input.now.only c.args.asked.now.harts c.args.input.now.bytes.now)
    (HasHartFound c.args.asked.now.harts c.args.input.now.only c.args.input.now.bytes.now (Err why)) why c.from_residual.result
    (g.O.Write.contents c.args.out.now) is c.in_err-found.ensures.lacked (λ none. (Err why, none, refl))
