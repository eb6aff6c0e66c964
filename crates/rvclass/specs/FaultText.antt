-- The texts of faults.
use Rattle.std.specs.Prelude.{ℕ, List, codes}
use Rattle.rvclass.specs.declared.fault.ProgramFault.{ProgramFault}
use Rattle.rvclass.specs.declared.fault.ProgramFault.TheVariants.{OddBase, TooLarge, PastEnd}

-- Why bytes make no program, as a line of text.
abbrev pub program_fault_text : ProgramFault → List ℕ
program_fault_text OddBase = codes "base is odd"
program_fault_text TooLarge = codes "image is larger than 16777216 bytes"
program_fault_text PastEnd = codes "image runs past the last address"
