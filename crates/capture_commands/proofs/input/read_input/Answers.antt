-- The prover tries no chain of steps by itself: what each step found is handed to it, in order.
use Rattle.std.proofs.Common.{Err, Ok, arith, inr, refl, subst, ◌≡◌, ◌∙◌, ◌⊎◌}
use Rattle.std.proofs.lemmas.Grind.{common_steps}
use Rattle.command_inputs.specs.Found.{IsAskedBase, IsProgramAt, IsRead}
use Rattle.command_inputs.specs.FurtherPieces.{base_number}
use Rattle.command_inputs.specs.OnlyHarts.{IsOnly, asked_harts}
use Rattle.command_inputs.specs.declared.fault.Fault.TheVariants as fault
use Rattle.command_inputs.proofs.FirstSteps.{lacks}
use Rattle.capture_commands.specs.CaptureInput.{IsCaptureInput}
use Rattle.command_inputs.specs.Symbols.{AreSymbols}
use Rattle.capture_commands.specs.declared.reason.CaptureReason.{CaptureReason}
use Rattle.capture_commands.proofs.InputRuns.{early_base, early_none, early_only}
use Rattle.capture_commands.proofs.input.read_input.Goals as goal

pub returns-in_err-base-clause-early : goal.returns-in_err-base-clause-early
returns-in_err-base-clause-early g c =
    let asked = c.args.asked.now in
    let why = c.in_err-base.field-0.0 in
    let is : c.from_residual.result ≡ Err why = grind (arith, common_steps) in
    early_base asked.format (base_number asked.program.now) (asked_harts asked.only) c.from_residual.result why
    c.in_err-base.ensures.none is

pub returns-in_err-base-clause-lacked : goal.returns-in_err-base-clause-lacked
returns-in_err-base-clause-lacked g c =
    let asked = c.args.asked.now in
    let content = g.F.Files.content c.args.files.now in
    let why = c.in_err-base.field-0.0 in
    let is : c.from_residual.result ≡ Err why = grind (arith, common_steps) in
    lacks why c.from_residual.result (IsAskedBase asked.format asked.program.now (Err why))
    (λ why. IsCaptureInput content asked.format asked.program.now asked.only asked.symbols asked.capture (Err why)) is
    (inr c.in_err-base.ensures.found) (λ none. (Err why, none, refl))

pub returns-in_err-only-clause-early : goal.returns-in_err-only-clause-early
returns-in_err-only-clause-early g c =
    let asked = c.args.asked.now in
    let why = c.in_err-only.field-0.0 in
    let is : c.from_residual-in_err-only.result ≡ Err why = grind (arith, common_steps) in
    early_only asked.format (base_number asked.program.now) (asked_harts asked.only) c.from_residual-in_err-only.result
    c.in_ok-base.ensures.number why c.in_err-only.ensures.none is

pub returns-in_err-only-clause-lacked : goal.returns-in_err-only-clause-lacked
returns-in_err-only-clause-lacked g c =
    let asked = c.args.asked.now in
    let content = g.F.Files.content c.args.files.now in
    let why = c.in_err-only.field-0.0 in
    let is : c.from_residual-in_err-only.result ≡ Err why = grind (arith, common_steps) in
    lacks why c.from_residual-in_err-only.result (IsOnly asked.only (Err why))
    (λ why. IsCaptureInput content asked.format asked.program.now asked.only asked.symbols asked.capture (Err why)) is
    (inr c.in_err-only.ensures.found)
    (λ none. (Ok c.in_ok-base.base, c.in_ok-base.ensures.found, (Err why, none, refl)))

pub returns-in_err-program-clause-early : goal.returns-in_err-program-clause-early
returns-in_err-program-clause-early g c =
    let asked = c.args.asked.now in
    early_none asked.format (base_number asked.program.now) (asked_harts asked.only) c.from_residual-in_err-program.result
    c.in_ok-base.ensures.number c.in_ok-only.ensures.some

pub returns-in_err-program-clause-lacked : goal.returns-in_err-program-clause-lacked
returns-in_err-program-clause-lacked g c =
    let asked = c.args.asked.now in
    let content = g.F.Files.content c.args.files.now in
    let why = c.in_err-program.field-0.0 in
    let is : c.from_residual-in_err-program.result ≡ Err why = grind (arith, common_steps) in
    lacks why c.from_residual-in_err-program.result (IsProgramAt content c.in_ok-base.base asked.program.now (Err why))
    (λ why. IsCaptureInput content asked.format asked.program.now asked.only asked.symbols asked.capture (Err why)) is
    c.in_err-program.ensures.fault
    (λ none. (
      Ok c.in_ok-base.base,
      c.in_ok-base.ensures.found,
      (Ok c.in_ok-only.only, c.in_ok-only.ensures.found, (Err why, none, refl)),
    ))

pub returns-in_err-symbols-clause-early : goal.returns-in_err-symbols-clause-early
returns-in_err-symbols-clause-early g c =
    let asked = c.args.asked.now in
    early_none asked.format (base_number asked.program.now) (asked_harts asked.only) c.from_residual-in_err-symbols.result
    c.in_ok-base.ensures.number c.in_ok-only.ensures.some

pub returns-in_err-symbols-clause-lacked : goal.returns-in_err-symbols-clause-lacked
returns-in_err-symbols-clause-lacked g c =
    let asked = c.args.asked.now in
    let content = g.F.Files.content c.args.files.now in
    let why = c.in_err-symbols.field-0.0 in
    let is : c.from_residual-in_err-symbols.result ≡ Err why = grind (arith, common_steps) in
    let lacked = subst (λ known. (why ≡ fault.Memory) ⊎ AreSymbols known asked.symbols (Err why))
    c.in_ok-program.ensures.kept c.in_err-symbols.ensures.fault in
    lacks why c.from_residual-in_err-symbols.result (AreSymbols content asked.symbols (Err why))
    (λ why. IsCaptureInput content asked.format asked.program.now asked.only asked.symbols asked.capture (Err why)) is
    lacked
    (λ none. (
      Ok c.in_ok-base.base,
      c.in_ok-base.ensures.found,
      (
        Ok c.in_ok-only.only,
        c.in_ok-only.ensures.found,
        (Ok c.in_ok-program.program, c.in_ok-program.ensures.program, (Err why, none, refl)),
      ),
    ))

pub returns-in_err-bytes-clause-early : goal.returns-in_err-bytes-clause-early
returns-in_err-bytes-clause-early g c =
    let asked = c.args.asked.now in
    early_none asked.format (base_number asked.program.now) (asked_harts asked.only) c.from_residual-in_err-bytes.result
    c.in_ok-base.ensures.number c.in_ok-only.ensures.some

pub returns-in_err-bytes-clause-lacked : goal.returns-in_err-bytes-clause-lacked
returns-in_err-bytes-clause-lacked g c =
    let asked = c.args.asked.now in
    let content = g.F.Files.content c.args.files.now in
    let why = c.in_err-bytes.field-0.0 in
    let is : c.from_residual-in_err-bytes.result ≡ Err why = grind (arith, common_steps) in
    let lacked = subst (λ known. (why ≡ fault.Memory) ⊎ IsRead known asked.capture (Err why))
    (c.in_ok-symbols.ensures.kept ∙ c.in_ok-program.ensures.kept) c.in_err-bytes.ensures.lacked in
    let named = subst (λ known. AreSymbols {W = CaptureReason} known asked.symbols (Ok c.in_ok-symbols.symbols)) c.in_ok-program.ensures.kept
    c.in_ok-symbols.ensures.symbols in
    lacks why c.from_residual-in_err-bytes.result (IsRead content asked.capture (Err why))
    (λ why. IsCaptureInput content asked.format asked.program.now asked.only asked.symbols asked.capture (Err why)) is
    lacked
    (λ none. (
      Ok c.in_ok-base.base,
      c.in_ok-base.ensures.found,
      (
        Ok c.in_ok-only.only,
        c.in_ok-only.ensures.found,
        (
          Ok c.in_ok-program.program,
          c.in_ok-program.ensures.program,
          (Ok c.in_ok-symbols.symbols, named, (Err why, none, refl)),
        ),
      ),
    ))

pub returns-clause-early : goal.returns-clause-early
returns-clause-early g c =
    let asked = c.args.asked.now in
    early_none asked.format (base_number asked.program.now) (asked_harts asked.only) _ c.in_ok-base.ensures.number
    c.in_ok-only.ensures.some

pub returns-clause-found : goal.returns-clause-found
returns-clause-found g c =
    let asked = c.args.asked.now in
    let content = g.F.Files.content c.args.files.now in
    let named = subst (λ known. AreSymbols {W = CaptureReason} known asked.symbols (Ok c.in_ok-symbols.symbols)) c.in_ok-program.ensures.kept
    c.in_ok-symbols.ensures.symbols in
    let read = subst (λ known. IsRead {W = CaptureReason} known asked.capture (Ok c.in_ok-bytes.bytes.items))
    (c.in_ok-symbols.ensures.kept ∙ c.in_ok-program.ensures.kept) c.in_ok-bytes.ensures.held in (
      Ok c.in_ok-base.base,
      c.in_ok-base.ensures.found,
      (
        Ok c.in_ok-only.only,
        c.in_ok-only.ensures.found,
        (
          Ok c.in_ok-program.program,
          c.in_ok-program.ensures.program,
          (
            Ok c.in_ok-symbols.symbols,
            named,
            (Ok c.in_ok-bytes.bytes.items, read, refl),
          ),
        ),
      ),
    )
