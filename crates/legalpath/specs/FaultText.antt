-- The texts of faults.
use Rattle.std.specs.Prelude.{ℕ, ◌++◌, List, codes}
use Rattle.std.specs.Fmt.{decimal}
use Rattle.legalpath.specs.declared.fault.PathFault.{PathFault}
use Rattle.legalpath.specs.declared.fault.Why.{Why}
use Rattle.legalpath.specs.declared.fault.Why.TheVariants.{OffProgram, NotRetirable, WrongType, WrongNext}
use Rattle.legalpath.specs.declared.fault.Why.TheVariants.{WrongPrivilege, WrongEpc}

-- The name of a reason.
abbrev pub why_text : Why → List ℕ
why_text OffProgram = codes "OffProgram"
why_text NotRetirable = codes "NotRetirable"
why_text WrongType = codes "WrongType"
why_text WrongNext = codes "WrongNext"
why_text WrongPrivilege = codes "WrongPrivilege"
why_text WrongEpc = codes "WrongEpc"

-- A row's number, and the name of the reason.
abbrev pub path_fault_text : PathFault → List ℕ
path_fault_text fault = codes "row " ++ (decimal fault.row ++ (codes ": " ++ why_text fault.why))
