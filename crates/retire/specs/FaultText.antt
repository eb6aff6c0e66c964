-- The texts of faults.
use Rattle.std.specs.Prelude.{ℕ, ◌++◌, List, codes}
use Rattle.std.specs.Fmt.{decimal}
use Rattle.retire.specs.declared.fault.LogFault.{LogFault}
use Rattle.retire.specs.declared.fault.LogFault.TheVariants as fault
use Rattle.retire.specs.declared.fault.WriteFault.{WriteFault}
use Rattle.retire.specs.declared.fault.WriteFault.TheVariants as write

-- A row's number, and what is wrong with it.
abbrev pub row_fault_text : ℕ → List ℕ → List ℕ
row_fault_text row wrong = codes "row " ++ (decimal row ++ (codes ": " ++ wrong))

-- Why a log was not read, as a line of text.
abbrev pub log_fault_text : LogFault → List ℕ
log_fault_text fault.Header = codes "wrong header"
log_fault_text (fault.Fields row) = row_fault_text row (codes "wrong number of fields")
log_fault_text (fault.Number row) = row_fault_text row (codes "not a number")
log_fault_text (fault.Odd row) = row_fault_text row (codes "odd address")
log_fault_text (fault.RowType row) = row_fault_text row (codes "unknown type")
log_fault_text (fault.Privilege row) = row_fault_text row (codes "unknown privilege")
log_fault_text (fault.Cause row) = row_fault_text row (codes "cause above 3f")
log_fault_text (fault.TrapFields row) = row_fault_text row (codes "cause or value missing or not wanted")
log_fault_text (fault.InterruptValue row) = row_fault_text row (codes "an interrupt has a value")
log_fault_text fault.TooLong = codes "more than 16777216 rows"
log_fault_text (fault.LongerThan most) = codes "more than " ++ (decimal most ++ codes " rows")
log_fault_text fault.Read = codes "cannot be read"
log_fault_text fault.Memory = codes "out of memory"

-- Why a log was not written, as a line of text.
abbrev pub write_fault_text : WriteFault → List ℕ
write_fault_text write.Write = codes "cannot be written"
write_fault_text write.Memory = codes "out of memory"
