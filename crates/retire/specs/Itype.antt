-- The types of events: the values of `itype`, as the E-Trace specification's "Instruction Trace Interface" numbers
-- them. `src/itype.rt` has the same names for the code.
use Rattle.std.specs.Prelude.{ℕ}

-- A retirement that is none of the others: a plain instruction, or an inferable jump, whose target the program gives.
abbrev pub other : ℕ
other = 0

abbrev pub exception : ℕ
exception = 1

abbrev pub interrupt : ℕ
interrupt = 2

-- A retirement of a return from a trap.
abbrev pub trap_return : ℕ
trap_return = 3

-- A retirement of a branch that was not taken, and of one that was.
abbrev pub not_taken : ℕ
not_taken = 4

abbrev pub taken : ℕ
taken = 5

-- A retirement of an uninferable jump: one to an address that a register holds.
abbrev pub uninferable : ℕ
uninferable = 6
