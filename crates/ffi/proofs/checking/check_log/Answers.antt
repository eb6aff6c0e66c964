-- A fault of the text is handed on: no tactic takes it from the conversion.
use Rattle.std.proofs.Common.{◌≡◌, ◌⊎◌, inl, inr, Err, sym, subst, arith}
use Rattle.std.proofs.lemmas.Grind.{common_steps}
use Rattle.retire.specs.declared.fault.LogFault.TheVariants as log
use Rattle.ffi.specs.Checked.{IsChecked, IsNoLog}
use Rattle.ffi.specs.declared.fault.Fault.TheVariants.{Log}
use Rattle.ffi.proofs.checking.check_log.Goals as goal

pub returns-in_err-events : goal.returns-in_err-events
returns-in_err-events c =
    let image = c.args.image.now in
    let text = c.args.log.now in
    let why = c.in_err-events.field-0.0 in
    let is : c.from_residual.result ≡ Err (Log why) = grind (arith, common_steps) in
    let faulty : (why ≡ log.Memory) ⊎ IsNoLog image text why =
    elim c.in_err-events.ensures.faults [
      | inl memory ↦ inl memory
      | inr none ↦ inr (c.in-Ok.program, c.in-Ok.is, none)
    ] in
    subst (IsChecked image text) (sym is) faulty
