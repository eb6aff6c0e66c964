-- SENT is read as far as it is looked at.
use Rattle.std.specs.Prelude.{ℕ, ◌≡◌, ◌+◌, ◌++◌, Bool, true, false, List, [], ◌∷◌, Option, Some, None, Result, Ok, Err}
use Rattle.std.specs.Prelude.{length, slice_get, take}
use Rattle.message.specs.declared.message.Message.{Message}
use Rattle.auditing.specs.Fates.{is_numbered}
use Rattle.live.specs.Following.{Audited, EndsWell, IsLeftAt, IsLookFault, Left, Reads, left_after}
use Rattle.live.specs.Holding.{Holding}
use Rattle.live.specs.Holds.{Holds, IsReadFault}
use Rattle.live.specs.declared.fault.LookFault.{LookFault}
use Rattle.live.specs.declared.fault.LookFault.TheVariants as look
use Rattle.live.specs.steps.Reading.{refusal_by}

-- The next message of SENT was given, which may be the next one of its hart, or SENT has ended, or it is not read on.
abbrev pub IsNextSent : Audited → ℕ → Holding → Result (Option Message) LookFault → Left → Type 0
IsNextSent all read own (Ok (Some message)) left =
    (slice_get all.sent read ≡ Some message) × (left ≡ left_after all (read + 1))
    × (refusal_by (slice_get own.harts message.hart) message.number ≡ None)
IsNextSent all read own (Ok None) left = (read ≡ length all.sent) × (left ≡ left_after all read) × EndsWell all
IsNextSent all read own (Err why) left = IsLookFault all read why × IsLeftAt all read why left

-- The next message of SENT was read, and it is the one of this hart with this number or not; or it is not read.
abbrev pub IsReadLast : List Message → List Message → ℕ → Message → ℕ → ℕ → ℕ → ℕ → Result Bool LookFault → Holding → Type 0
IsReadLast sent came front message hart number harts window (Ok is) own =
    (is ≡ is_numbered hart number message) × Holds (sent ++ message ∷ []) came front own
IsReadLast sent came front message hart number harts window (Err (look.Sent why)) own =
    IsReadFault harts window sent front message why
IsReadLast sent came front message hart number harts window (Err (look.Source why)) own = ⊥

-- One message more of SENT was read, or SENT has ended, or it is not read on.
abbrev pub ReadsOne : Audited → ℕ → List Message → ℕ → Result Bool LookFault → Holding → Left → Type 0
ReadsOne all read came front (Ok true) own left = Reads all (read + 1) came front own left
ReadsOne all read came front (Ok false) own left =
    Reads all read came front own left × (read ≡ length all.sent) × EndsWell all
ReadsOne all read came front (Err why) own left =
    Holds (take read all.sent) came front own × (length own.harts ≡ all.harts) × (own.window ≡ all.window)
    × (own.by ≡ all.by) × IsLookFault all read why × IsLeftAt all read why left
