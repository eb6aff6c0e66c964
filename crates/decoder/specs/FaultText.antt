-- The texts of faults.
use Rattle.std.specs.Prelude.{ℕ, List, codes}
use Rattle.decoder.specs.declared.fault.DecodeFault.{DecodeFault}
use Rattle.decoder.specs.declared.fault.DecodeFault.TheVariants as fault

-- Why a packet is not decoded, as a line of text.
abbrev pub decode_fault_text : DecodeFault → List ℕ
decode_fault_text fault.NotOpened = codes "not decoded: NotOpened"
decode_fault_text fault.OffProgram = codes "not decoded: OffProgram"
decode_fault_text fault.MissedNotify = codes "not decoded: MissedNotify"
decode_fault_text fault.Branches = codes "not decoded: Branches"
decode_fault_text fault.WrongPlace = codes "not decoded: WrongPlace"
decode_fault_text fault.WrongPrivilege = codes "not decoded: WrongPrivilege"
decode_fault_text fault.AfterClose = codes "not decoded: AfterClose"
decode_fault_text fault.Memory = codes "out of memory"
