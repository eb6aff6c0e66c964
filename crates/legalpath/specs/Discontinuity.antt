-- Uninferable discontinuities.
use Rattle.std.specs.Prelude.{Bool, true, false, Option, Some}
use Rattle.retire.specs.declared.event.Event.{Event}
use Rattle.rvclass.specs.Words.{Word, Words}
use Rattle.rvclass.specs.declared.class.Class.TheVariants.{Uninferable, TrapReturn}
use Rattle.legalpath.specs.WordOf.{word_of}

-- There is an instruction, and it jumps to an address that a register holds, or returns from a trap.
abbrev pub hides_its_target : Option Word → Bool
hides_its_target (Some (Uninferable, length)) = true
hides_its_target (Some (TrapReturn ret, length)) = true
hides_its_target _ = false

-- An uninferable discontinuity: a retirement of a jump to an address that a register holds, or of a return from a trap.
abbrev pub is_discontinuity : Words → Event → Bool
is_discontinuity words event = hides_its_target (word_of words event)
