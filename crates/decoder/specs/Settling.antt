-- When it is known where the retirements of an address packet end.
use Rattle.std.specs.Prelude.{Bool, true, false, Option, Some, None}
use Rattle.payload.specs.declared.packet.Packet.{Packet}
use Rattle.payload.specs.declared.packet.Packet.TheVariants as packet
use Rattle.payload.specs.declared.packet.Report.{Report}
use Rattle.payload.specs.declared.packet.Report.TheVariants as report
use Rattle.payload.specs.declared.packet.Support.TheVariants as support

-- What the address of an address packet is. It is explicit, and the walk reaches it with no uninferable discontinuity
-- on the way; or it is the target of an uninferable discontinuity; or it is not known yet which.
pub data AddressKind : Type 0 where
  Explicit : AddressKind
  Target : AddressKind
  Unknown : AddressKind

-- An address packet with plain bits is explicit where this packet follows it: a synchronisation, a trap, or the support
-- packet `EndedRep`, which says that the last instruction was reported.
abbrev pub makes_explicit : Packet → Bool
makes_explicit (packet.Sync taken priv address) = true
makes_explicit (packet.Trap taken priv cause interrupt handler address tval) = true
makes_explicit (packet.Support support.EndedRep) = true
makes_explicit other = false

-- Explicit where this is true, and else a target.
abbrev pub explicit_or_target : Bool → AddressKind
explicit_or_target true = Explicit
explicit_or_target false = Target

-- What the address of an address packet with plain bits is. The packet that follows settles it, and it is unknown as
-- long as none follows.
abbrev pub settled_by : Option Packet → AddressKind
settled_by None = Unknown
settled_by (Some next) = explicit_or_target (makes_explicit next)

-- What the address of an address packet with these report bits is, where the packet `next` follows it, if one does.
-- With `updiscon` flipped it is the target of a discontinuity at once, with `notify` flipped it is explicit at once.
abbrev pub settled : Report → Option Packet → AddressKind
settled report.Plain next = settled_by next
settled report.Updiscon next = Target
settled report.Notify next = Explicit

-- The packet waits for the one that follows it: it is an address packet with plain bits.
abbrev pub waits : Packet → Bool
waits (packet.Address outcomes delta report.Plain) = true
waits other = false
