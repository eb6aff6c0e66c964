-- The texts of faults.
use Rattle.std.specs.Prelude.{ℕ, ◌++◌, List, codes}
use Rattle.std.specs.Fmt.{decimal}
use Rattle.legalpath.specs.FaultText.{path_fault_text}
use Rattle.rvclass.specs.PieceFaultText.{piece_fault_text}
use Rattle.rvclass.specs.declared.piece_fault.PieceFault.{PieceFault}
use Rattle.rvclass.specs.declared.piece_fault.PieceFault.TheVariants.{TooMany}
use Rattle.retire.specs.FaultText.{log_fault_text}
use Rattle.rvclass.specs.FaultText.{program_fault_text}
use Rattle.symbols.specs.FaultText.{symbols_fault_text}
use Rattle.command_inputs.specs.Faults.{Path}
use Rattle.command_inputs.specs.declared.fault.Fault.{Fault}
use Rattle.command_inputs.specs.declared.fault.Fault.TheVariants as fault

-- What is wrong with the file at a path: the path, a colon, and this text.
abbrev pub at_path : Path → List ℕ → List ℕ
at_path path text = path.now ++ (codes ": " ++ text)

-- What is wrong with the piece at a path. That there are too many is no fault of the file.
abbrev pub piece_text : Path → PieceFault → List ℕ
piece_text path TooMany = piece_fault_text TooMany
piece_text path why = at_path path (piece_fault_text why)

-- Why a subcommand stops, as a line of text. The text of a reason of its own is given.
abbrev pub fault_text : {W : Type 0} → (W → List ℕ) → Fault W → List ℕ
fault_text own (fault.Own why) = own why
fault_text own fault.Format = codes "format is not text or csv"
fault_text own fault.Base = codes "base is not a number"
fault_text own fault.Only = codes "only is not a range of harts"
fault_text own fault.NoLogs = codes "no logs"
fault_text own (fault.ManyLogs most) = codes "more than " ++ (decimal most ++ codes " logs")
fault_text own (fault.Unreadable path) = at_path path (codes "cannot be read")
fault_text own (fault.Image why) = program_fault_text why
fault_text own (fault.Piece path why) = piece_text path why
fault_text own (fault.Log path why) = at_path path (log_fault_text why)
fault_text own (fault.Illegal path why) = at_path path (path_fault_text why)
fault_text own (fault.Symbols path why) = at_path path (symbols_fault_text why)
fault_text own fault.Output = codes "output cannot be written"
fault_text own fault.Memory = codes "out of memory"

-- The line that a fault has on standard error.
abbrev pub error_line : {W : Type 0} → (W → List ℕ) → Fault W → List ℕ
error_line own why = codes "tracebench: " ++ (fault_text own why ++ codes "\n")
