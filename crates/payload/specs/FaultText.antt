-- The texts of faults.
use Rattle.std.specs.Prelude.{ℕ, List, codes}
use Rattle.payload.specs.declared.fault.PackFault.{PackFault}
use Rattle.payload.specs.declared.fault.PackFault.TheVariants as fault

-- The name of the reason why bytes are no payload.
abbrev pub pack_fault_text : PackFault → List ℕ
pack_fault_text fault.Empty = codes "Empty"
pack_fault_text fault.TooLong = codes "TooLong"
pack_fault_text fault.BadPad = codes "BadPad"
pack_fault_text fault.Unsupported = codes "Unsupported"
pack_fault_text fault.BadPrivilege = codes "BadPrivilege"
pack_fault_text fault.BadReport = codes "BadReport"
