-- Why one piece is no program.
use Rattle.rvclass.specs.declared.piece_fault.PieceFault.{PieceFault}
use Rattle.rvclass.specs.declared.piece_fault.PieceFault.TheVariants as piece
use Rattle.rvclass.specs.declared.fault.ProgramFault.{ProgramFault}
use Rattle.rvclass.specs.declared.fault.ProgramFault.TheVariants.{OddBase, TooLarge, PastEnd}

-- The fault of a program whose one piece has this fault. A piece on its own has no fault but these three.
abbrev pub program_fault : PieceFault → ProgramFault
program_fault piece.OddBase = OddBase
program_fault piece.TooLarge = TooLarge
program_fault _ = PastEnd
