-- Events whose numbers fit a register.
use Rattle.std.specs.Prelude.{◌<◌, ◌^◌}
use Rattle.retire.specs.declared.event.Event.{Event}
use Rattle.retire.specs.declared.event.Event.TheVariants.{Retire, Trap}

-- The addresses and the trap value of an event have 64 bits.
abbrev pub Is64Bit : Event → Type 0
Is64Bit (Retire addr itype priv) = addr < 2 ^ 64
Is64Bit (Trap priv interrupt cause epc tval) = (epc < 2 ^ 64) × (tval < 2 ^ 64)
