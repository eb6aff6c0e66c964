-- How far messages are collected.
use Rattle.std.specs.Prelude.{ℕ, ◌≡◌, ◌≢◌, ◌++◌, false, List, [], None, Some, Err, IsOk, length, slice_get}
use Rattle.rvclass.specs.Words.{Words}
use Rattle.decoder.specs.Resuming.{HasMode}
use Rattle.decoder.specs.DecoderStands.{DecoderStands}
use Rattle.decoder.specs.declared.fault.DecodeFault.TheVariants.{Memory}
use Rattle.message.specs.Harts.{Harts}
use Rattle.message.specs.Lossy.{accepting_lossy}
use Rattle.message.specs.declared.message.Message.{Message}
use Rattle.losses.specs.Parts.{stretch}
use Rattle.losses.specs.PartsIn.{parts_in}
use Rattle.losses.specs.declared.fault.LossyFault.{LossyFault}
use Rattle.losses.specs.declared.fault.LossyFault.TheVariants as fault
use Rattle.losses.specs.declared.hart_trace.HartTrace.{HartTrace}
use Rattle.losses.specs.declared.part.HartPieces.{HartPieces}

-- Nothing of a hart is under way: its decoder stands for no packet and has no mode, and there is no event.
pub record IsNewTrace {A : Type 0} (trace : HartTrace A) : Type 0 where
  pub stands : (words : Words) → DecoderStands words [] [] trace.decoder
  pub no_mode : HasMode None trace.decoder
  pub empty : trace.stretch.items ≡ []

-- Nothing of a hart is collected: there is no part, and it is not closed.
abbrev pub IsNewPieces : {A : Type 0} → HartPieces A → Type 0
IsNewPieces pieces = (pieces.parts.items ≡ []) × (pieces.closed ≡ false)

-- The fault for a packet that is not taken, whose message is at this place: it names the place, or says that an allocation
-- failed.
abbrev pub IsNotTaken : ℕ → LossyFault → Type 0
IsNotTaken place (fault.Demux at why) = ⊥
IsNotTaken place (fault.Decode at why) = (at ≡ place) × (why ≢ Memory)
IsNotTaken place fault.Memory = Unit {0}

-- The fault for a message at this place that is not collected, where this is expected of each hart. The demultiplexer
-- refuses the message; or it accepts it, and its packet is not decoded; or an allocation failed.
abbrev pub IsNotCollected : Harts → Message → ℕ → LossyFault → Type 0
IsNotCollected harts message place (fault.Demux at why) = (at ≡ place) × (accepting_lossy harts message ≡ Err why)
IsNotCollected harts message place (fault.Decode at why) =
    (at ≡ place) × IsOk (accepting_lossy harts message) × (why ≢ Memory)
IsNotCollected harts message place fault.Memory = Unit {0}

-- The stretch that was under way for a hart became the last of the hart's parts, if it has an event. Whether the hart
-- is closed did not change.
pub record IsEnded {A : Type 0} (trace : HartTrace A) (before after : HartPieces A) : Type 0 where
  pub parts : parts_in after.parts.items ≡ parts_in before.parts.items ++ stretch trace.stretch.items
  pub closed : after.closed ≡ before.closed

-- The stretch of each hart became the last of its parts, where it has an event.
pub record AreEnded {A : Type 0} (traces : List (HartTrace A)) (before after : List (HartPieces A)) : Type 0 where
  pub count : length after ≡ length before
  pub each : (hart : ℕ) (trace : HartTrace A) (old new : HartPieces A) → slice_get traces hart ≡ Some trace
      → slice_get before hart ≡ Some old → slice_get after hart ≡ Some new → IsEnded trace old new
