-- Where a hart ends, by the numbers of its used messages.
use Rattle.std.specs.Prelude.{ℕ, ◌≡◌, ◌<◌, ◌≤◌, All, true, Contains, List, [], ◌∷◌, Ok}
use Rattle.retire.specs.declared.event.Event.{Event}
use Rattle.rvclass.specs.Words.{Words}
use Rattle.payload.specs.Closing.{is_closing}
use Rattle.payload.specs.Reading.{reading}
use Rattle.payload.specs.declared.mode.Mode.{Mode}
use Rattle.payload.specs.declared.packet.Packet.{Packet}
use Rattle.decoder.specs.Describes.{Describes}
use Rattle.decoder.specs.Order.{open_packet}
use Rattle.decoder.specs.Resuming.{IsSync}
use Rattle.salvaging.specs.Entries.{Entry, Used, entry_number}

-- No number greater than this one is used with a synchronisation that is decoded: after a packet that opens a trace in
-- this mode, the synchronisation describes no log.
abbrev pub NoSynchronisationAfter : Words → Mode → ℕ → List Entry → Type 0
NoSynchronisationAfter words mode number entries =
    (later place : ℕ) (payload : List ℕ) (packet : Packet) (log : List Event) → number < later
    → Contains entries (Used later place payload) → reading payload ≡ Ok packet → IsSync packet
    → ¬ Describes words (open_packet mode ∷ packet ∷ []) log

-- A number greater than this one is used.
abbrev pub IsUsedAfter : ℕ → List Entry → Type 0
IsUsedAfter number entries =
    (later : ℕ) × (place : ℕ) × (payload : List ℕ) × (number < later) × Contains entries (Used later place payload)

-- A hart with these entries may end at this number. It is used, its message closes the trace, and a greater number is
-- used, but none with a synchronisation that is decoded.
pub record MayEndAt (words : Words) (mode : Mode) (entries : List Entry) (number : ℕ) : Type 0 where
  pub place : ℕ
  pub payload : List ℕ
  pub used : Contains entries (Used number place payload)
  pub closes : is_closing payload ≡ true
  pub greater : IsUsedAfter number entries
  pub no_synchronisation : NoSynchronisationAfter words mode number entries

-- A hart with these entries ends at this number, the lowest at which it may.
pub record EndsAt (words : Words) (mode : Mode) (entries : List Entry) (number : ℕ) : Type 0 where
  pub may_end : MayEndAt words mode entries number
  pub lowest : (lower : ℕ) → MayEndAt words mode entries lower → number ≤ lower

-- The entries up to a hart's end are those with numbers up to the one at which it ends, and those beyond have greater
-- numbers. Where none is beyond, the hart may end at no number.
abbrev pub AreCutByNumber : Words → Mode → List Entry → List Entry → List Entry → Type 0
AreCutByNumber words mode entries upto [] = (number : ℕ) → ¬ MayEndAt words mode entries number
AreCutByNumber words mode entries upto (first ∷ beyond) =
    (number : ℕ) × EndsAt words mode entries number × All (λ (entry : Entry). entry_number entry ≤ number) upto
    × All (λ (entry : Entry). number < entry_number entry) (first ∷ beyond)
