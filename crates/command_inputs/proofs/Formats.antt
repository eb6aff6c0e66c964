-- What is found of the format and of the base, before any file is read.
use Rattle.std.proofs.Common.{◌≡◌, sym, subst, Option, Some, None, Result, Err}
use Rattle.std.specs.Prelude.{IfSome}
use Rattle.command_inputs.specs.declared.fault.Fault.{Fault}
use Rattle.command_inputs.specs.declared.status.Status.{Status}

-- The run ends at the fault that is found first.
pub found_ends : {W : Type 0} (seen : Option (Fault W)) (why : Fault W) (ended : Result Status (Fault W))
    → seen ≡ Some why → ended ≡ Err why → IfSome seen (λ fault. ended ≡ Err fault)
found_ends seen why ended found is = subst (λ seen. IfSome seen (λ fault. ended ≡ Err fault)) (sym found) is

-- None is found.
pub none_ends : {W : Type 0} (seen : Option (Fault W)) (ended : Result Status (Fault W)) → seen ≡ None
    → IfSome seen (λ fault. ended ≡ Err fault)
none_ends seen ended none = subst (λ seen. IfSome seen (λ fault. ended ≡ Err fault)) (sym none) tt
