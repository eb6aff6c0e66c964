-- The texts of faults.
use Rattle.std.specs.Prelude.{ℕ, List, codes}
use Rattle.rvclass.specs.declared.piece_fault.PieceFault.{PieceFault}
use Rattle.rvclass.specs.declared.piece_fault.PieceFault.TheVariants.{OddBase, TooLarge, PastEnd, Overlap, TooMuch, TooMany}
use Rattle.rvclass.specs.declared.piece_fault.PieceFault.TheVariants.{Memory}

-- Why a piece is not added, as a line of text.
abbrev pub piece_fault_text : PieceFault → List ℕ
piece_fault_text OddBase = codes "base is odd"
piece_fault_text TooLarge = codes "more than 16777216 bytes"
piece_fault_text PastEnd = codes "runs past the last address"
piece_fault_text Overlap = codes "overlaps"
piece_fault_text TooMuch = codes "more than 67108864 bytes in all"
piece_fault_text TooMany = codes "more than 1024 pieces"
piece_fault_text Memory = codes "out of memory"
