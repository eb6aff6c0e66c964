-- What was found is put together: the steps are handed on, in order, which no tactic does.
use Rattle.std.proofs.Common.{◌≡◌, ◌∙◌, ◌⊎◌, Err, ap, arith, inr, subst, sym, max}
use Rattle.std.proofs.lemmas.Grind.{common_steps}
use Rattle.std.specs.Prelude.{IfErr}
use Rattle.command_inputs.specs.declared.fault.Fault.TheVariants as fault
use Rattle.frames.specs.Harts.{harts_counted}
use Rattle.salvage_reports.proofs.FoundBehind.{found_of_capture}
use Rattle.capture_commands.specs.HartsFound.{HasHartFound}
use Rattle.capture_commands.specs.OnlyHarts.{hart_at}
use Rattle.capture_commands.proofs.salvaging_capture.find.Goals as goal
use Rattle.capture_commands.proofs.salvaging_capture.find.Goals.{After-hart_below}

-- Whether there is one of the harts.
below : (g : _) (c : After-hart_below g)
    → c.hart_below.result
    ≡ hart_at c.args.input.now.only (max (harts_counted c.args.harts c.start_of-start.result.header c.args.input.now.bytes.now) 1)
below g c =
    c.hart_below.ensures.value
    ∙ ap (hart_at c.args.input.now.only) (c.max.ensures ∙ ap (λ n. max n 1) c.harts_counted-count.ensures)

pub returns-in_err-hart_below-clause-lacked : goal.returns-in_err-hart_below-clause-lacked
returns-in_err-hart_below-clause-lacked g c =
    let bytes = c.args.input.now.bytes.now in
    let why = c.in_err-hart_below.field-0.0 in
    let is : c.from_residual.result ≡ Err why = grind (arith, common_steps) in
    let lacks : HasHartFound c.args.harts c.args.input.now.only bytes (Err why) = record {
      header = c.start_of-start.result.header;
      why = c.start_of-start.result.fault;
      start = c.start_of-start.ensures;
      is = sym c.in_err-hart_below.was ∙ below g (goal.at.returns-in_err-hart_below-clause-lacked g c).After-hart_below;
    } in
    subst (λ r. IfErr r (λ why. (why ≡ fault.Memory) ⊎ HasHartFound c.args.harts c.args.input.now.only bytes (Err why))) (sym is)
    (inr lacks)

pub returns-clause-found : goal.returns-clause-found
returns-clause-found g c =
    let start = c.start_of-start.result in
    record {
      has = record {
        header = start.header;
        why = start.fault;
        start = c.start_of-start.ensures;
        is = sym c.in_ok-hart_below.was ∙ below g (goal.at.returns-clause-found g c).After-hart_below;
      };
      is = found_of_capture start.header start.fault c.harts_counted-count.result c.args.input.now.only c.args.harts
          c.args.input.now.program.now c.args.input.now.bytes.now c.in_ok-found.found c.start_of-start.ensures
          c.harts_counted-count.ensures c.in_ok-found.ensures;
    }
