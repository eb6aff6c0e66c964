-- The prover tries no chain of steps by itself: what each step found is handed to it, in order.
use Rattle.std.proofs.Common.{◌≡◌, ◌∙◌, Err, ap, arith, inl, refl, subst, sym}
use Rattle.std.proofs.KnownBytes.{Keeps-refl}
use Rattle.std.proofs.lemmas.Grind.{common_steps}
use Rattle.std.specs.Io.KnownBytes.{Appends}
use Rattle.command_inputs.proofs.Runs.{appends-keeps, ends_silently, prints}
use Rattle.command_inputs.specs.Faults.{write_fault}
use Rattle.command_inputs.specs.Printed.{PrintsUnlessDenied}
use Rattle.capture_commands.proofs.WrittenOutcomes.{write_denied_once, write_memory}
use Rattle.frames.specs.Start.{spans_of}
use Rattle.capture_commands.specs.HartsFound.{HasHartFound}
use Rattle.capture_commands.specs.SalvagedFormats.{layout_of, salvaged_in}
use Rattle.capture_commands.specs.Salvaging.{CanSalvageOf, SalvagesOf}
use Rattle.capture_commands.proofs.SalvageRuns.{salvaged_cut, salvaged_printed, text_same}
use Rattle.capture_commands.specs.steps.Inputs.{names_in}
use Rattle.output.specs.Begun.{AppendsBeginning}
use Rattle.salvage_reports.specs.Layouts.{found_as}
use Rattle.capture_commands.proofs.salvaging_capture.salvage_capture.Goals.{After-write_found}
use Rattle.capture_commands.proofs.salvaging_capture.salvage_capture.Goals as goal

module _ (g : _) (c : After-write_found g) where
  -- A beginning of what was found was written, in the layout that was asked for.
  begun : AppendsBeginning (found_as (layout_of c.args.asked.now.format c.args.asked.now.summary) (names_in c.args.input.now)
      c.in_ok-found.found c.args.input.now.bytes.now)
      (g.O.Write.contents c.args.out.now) (g.O.Write.contents c.write_found.new.out)
  begun =
      subst (λ layout. AppendsBeginning (found_as layout (names_in c.args.input.now) c.in_ok-found.found c.args.input.now.bytes.now)
      (g.O.Write.contents c.args.out.now) (g.O.Write.contents c.write_found.new.out)) c.layout_of-layout.ensures
      c.write_found.ensures.begun

pub returns-in_err-found-clause-printed : goal.returns-in_err-found-clause-printed
returns-in_err-found-clause-printed g c =
    let why = c.in_err-found.field-0.0 in
    let is : c.from_residual.result ≡ Err why = grind (arith, common_steps) in
    ends_silently (SalvagesOf c.args.input.now.only c.args.asked.now.format c.args.asked.now.harts c.args.asked.now.summary c.args.input.now.program.now (names_in c.args.input.now) c.args.input.now.bytes.now)
    (CanSalvageOf c.args.input.now.only c.args.asked.now.harts c.args.input.now.bytes.now)
    (HasHartFound c.args.asked.now.harts c.args.input.now.only c.args.input.now.bytes.now (Err why)) why c.from_residual.result
    (g.O.Write.contents c.args.out.now) is c.in_err-found.ensures.lacked (λ none. (Err why, none, refl))

pub returns-in_err-write_found-clause-untouched : goal.returns-in_err-write_found-clause-untouched
returns-in_err-write_found-clause-untouched g c = λ memory.
    let why = c.in_err-write_found.field-0.0 in
    let failed : c.from_residual-in_err-write_found.result ≡ Err (write_fault why) = grind (arith, common_steps) in
    let refused = write_memory why (cc (sym failed ∙ memory)) in
    c.write_found.ensures.untouched (c.in_err-write_found.was ∙ ap Err refused)

pub returns-in_err-write_found-clause-printed : goal.returns-in_err-write_found-clause-printed
returns-in_err-write_found-clause-printed g c =
    let why = c.in_err-write_found.field-0.0 in
    let failed : c.from_residual-in_err-write_found.result ≡ Err (write_fault why) = grind (arith, common_steps) in
    let can : CanSalvageOf c.args.input.now.only c.args.asked.now.harts c.args.input.now.bytes.now =
    (tt, c.in_ok-found.ensures.found.has, tt) in
    subst (λ ended. PrintsUnlessDenied
    (SalvagesOf c.args.input.now.only c.args.asked.now.format c.args.asked.now.harts c.args.asked.now.summary c.args.input.now.program.now (names_in c.args.input.now) c.args.input.now.bytes.now)
    (CanSalvageOf c.args.input.now.only c.args.asked.now.harts c.args.input.now.bytes.now) ended (g.O.Write.contents c.args.out.now)
    (g.O.Write.contents c.write_found.new.out)) (sym failed)
    (inl (write_denied_once (CanSalvageOf c.args.input.now.only c.args.asked.now.harts c.args.input.now.bytes.now) can why))

pub returns-in_err-write_found-clause-cut : goal.returns-in_err-write_found-clause-cut
returns-in_err-write_found-clause-cut g c =
    let found = c.in_ok-found.found in
    let new = g.O.Write.contents c.write_found.new.out in
    salvaged_cut c.args.input.now.only c.args.asked.now.format c.args.asked.now.harts c.args.asked.now.summary c.args.input.now.program.now (names_in c.args.input.now) c.args.input.now.bytes.now found
    c.in_ok-found.ensures.found (g.O.Write.contents c.args.out.now) new new
    (begun g (goal.at.returns-in_err-write_found-clause-cut g c).After-write_found) (Keeps-refl new)

pub returns-in_err-flush-clause-cut : goal.returns-in_err-flush-clause-cut
returns-in_err-flush-clause-cut g c =
    let found = c.in_ok-found.found in
    salvaged_cut c.args.input.now.only c.args.asked.now.format c.args.asked.now.harts c.args.asked.now.summary c.args.input.now.program.now (names_in c.args.input.now) c.args.input.now.bytes.now found
    c.in_ok-found.ensures.found (g.O.Write.contents c.args.out.now) (g.O.Write.contents c.write_found.new.out)
    (g.O.Write.contents c.flush.new.self) (begun g (goal.at.returns-in_err-flush-clause-cut g c).After-write_found)
    c.flush.ensures.bytes

pub returns-clause-cut : goal.returns-clause-cut
returns-clause-cut g c =
    let found = c.in_ok-found.found in
    salvaged_cut c.args.input.now.only c.args.asked.now.format c.args.asked.now.harts c.args.asked.now.summary c.args.input.now.program.now (names_in c.args.input.now) c.args.input.now.bytes.now found
    c.in_ok-found.ensures.found (g.O.Write.contents c.args.out.now) (g.O.Write.contents c.write_found.new.out)
    (g.O.Write.contents c.flush.new.self) (begun g (goal.at.returns-clause-cut g c).After-write_found)
    c.flush.ensures.bytes

pub returns-clause-printed : goal.returns-clause-printed
returns-clause-printed g c =
    let only = c.args.input.now.only in
    let found = c.in_ok-found.found in
    let bytes = c.args.input.now.bytes.now in
    let old = g.O.Write.contents c.args.out.now in
    let new = g.O.Write.contents c.flush.new.self in
    let text = salvaged_in c.args.asked.now.format c.args.asked.now.summary (names_in c.args.input.now) only found.header (spans_of found.header bytes) found.salvaged in
    prints (SalvagesOf only c.args.asked.now.format c.args.asked.now.harts c.args.asked.now.summary c.args.input.now.program.now (names_in c.args.input.now) bytes)
    (CanSalvageOf only c.args.asked.now.harts bytes) c.ended.result old new (record {
      text = text;
      prints = salvaged_printed only c.args.asked.now.format c.args.asked.now.harts c.args.asked.now.summary c.args.input.now.program.now (names_in c.args.input.now) bytes found
          c.in_ok-found.ensures.found c.ended.result c.ended.ensures.value;
      appended = appends-keeps old (g.O.Write.contents c.write_found.new.out) new text
          (subst (Appends old (g.O.Write.contents c.write_found.new.out))
          (text_same only c.args.asked.now.format c.args.asked.now.harts c.args.asked.now.summary c.args.input.now.program.now (names_in c.args.input.now) bytes found
          c.in_ok-found.ensures.found)
          (subst (λ layout. Appends old (g.O.Write.contents c.write_found.new.out) (found_as layout (names_in c.args.input.now) found bytes))
          c.layout_of-layout.ensures c.in_ok-write_found.ensures.text)) c.flush.ensures.bytes;
    })
