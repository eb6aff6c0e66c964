-- Backward jumps.
use Rattle.std.specs.Prelude.{ℕ, nat_le, Bool, false, Option, Some}
use Rattle.retire.specs.Events.{place}
use Rattle.retire.specs.declared.event.Event.{Event}
use Rattle.rvclass.specs.Words.{Word, Words}
use Rattle.rvclass.specs.declared.class.Class.TheVariants.{Jump}
use Rattle.legalpath.specs.WordOf.{word_of}

-- The instruction at this address, if there is one, jumps to an address that is not greater.
abbrev pub jumps_back : ℕ → Option Word → Bool
jumps_back addr (Some (Jump to, length)) = nat_le to addr
jumps_back addr _ = false

-- A backward jump: a retirement of a jump whose target is not greater than its own address.
abbrev pub is_backward : Words → Event → Bool
is_backward words event = jumps_back (place event) (word_of words event)
