-- What is done with each message of a hart.
use Rattle.std.specs.Prelude.{ℕ, ◌≡◌, ◌⊎◌, ◌<◌, ◌&&◌, not, Bool, true, false, Contains, List, [], ◌∷◌, Some, length}
use Rattle.std.specs.Prelude.{map, slice_get, take}
use Rattle.retire.specs.Events.{place}
use Rattle.retire.specs.declared.event.Event.{Event}
use Rattle.rvclass.specs.Words.{Words}
use Rattle.legalpath.specs.LastPlace.{last_place}
use Rattle.payload.specs.declared.mode.Mode.{Mode}
use Rattle.message.specs.declared.message.Message.{Message}
use Rattle.salvaging.specs.Copies.{HasLike}
use Rattle.salvaging.specs.Ends.{AreCutAtEnd}
use Rattle.salvaging.specs.Entries.{Entry, Used, Doubtful, AreEntries, entry_number}
use Rattle.salvaging.specs.Far.{AreFar, believed}
use Rattle.salvaging.specs.Late.{is_late}
use Rattle.salvaging.specs.Leaving.{own_mode}
use Rattle.salvaging.specs.Shares.{Share, Adds, Passes, Spoils, StandsAlone, Doubts, HartShares}
use Rattle.salvaging.specs.Strangers.{is_stranger, own_messages}
use Rattle.salvaging.specs.declared.treatment.Added.{Added}
use Rattle.salvaging.specs.declared.treatment.Treated.{Treated}
use Rattle.salvaging.specs.declared.treatment.Treatment.{Treatment}
use Rattle.salvaging.specs.declared.treatment.Treatment.TheVariants as treatment

-- How many events a message adds, and the places of the first and of the last of them; 0 where there is none.
abbrev pub added_of : List Event → Added
added_of [] = record { count = 0; first = 0; last = 0 }
added_of (event ∷ events) =
    record { count = length (event ∷ events); first = place event; last = last_place (place event) events }

-- What is done with the message of an entry.
abbrev pub treatment_of : Share → Treatment
treatment_of (Adds events) = treatment.Taken (added_of events)
treatment_of Passes = treatment.Passed
treatment_of (Spoils why) = treatment.Bad why
treatment_of StandsAlone = treatment.Alone
treatment_of Doubts = treatment.Doubtful

-- The message of an entry is late: it is used and believed, and of these entries, whose numbers are greater, a believed
-- one came before it.
abbrev pub is_late_entry : Entry → Bool → List Entry → List Bool → Bool
is_late_entry (Used number place payload) one entries believed = one && is_late place entries believed
is_late_entry (Doubtful number first second) one entries believed = false

-- The entry is used and its message good, and its number is far.
abbrev pub is_far_entry : Entry → Bool → Bool → Bool
is_far_entry (Used number place payload) good far = good && far
is_far_entry (Doubtful number first second) good far = false

-- A number of a hart, and what is done with the first of its messages of each payload.
pub record Row : Type 0 where
  pub number : ℕ
  pub treated : Treated

-- The row of a number.
abbrev pub row_of : ℕ → Treatment → Bool → Bool → Row
row_of number treatment far late =
    record { number = number; treated = record { treatment = treatment; far = far; late = late } }

-- The message is good of which this is done: it is used, and neither bad nor alone.
abbrev pub is_good_treatment : Treatment → Bool
is_good_treatment treatment.Passed = true
is_good_treatment (treatment.Taken added) = true
is_good_treatment other = false

-- The row of an entry with this treatment, before others with theirs, by which of them are far.
abbrev pub own_row : (Entry → Bool) → Entry → List Entry → Treatment → List Treatment → Row
own_row far entry entries one treatments =
    row_of (entry_number entry) one (is_far_entry entry (is_good_treatment one) (far entry))
    (is_late_entry entry (is_good_treatment one && not (far entry)) entries
    (believed (map is_good_treatment treatments) (map far entries)))

-- The rows of entries with these treatments, by which of them are far.
abbrev pub rows : (Entry → Bool) → List Entry → List Treatment → List Row
rows far [] treatments = []
rows far (entry ∷ entries) [] = []
rows far (entry ∷ entries) (one ∷ treatments) = own_row far entry entries one treatments ∷ rows far entries treatments

-- A copy is passed over.
abbrev pub copy : Treated
copy = record { treatment = treatment.Copy; far = false; late = false }

-- What is done with the message at this place among its hart's messages: it is a copy, if an earlier message is like it,
-- and else it has what the row of its number says.
abbrev pub IsTreated : List Message → List Row → ℕ → Message → Treated → Type 0
IsTreated messages rows place message treated =
    (HasLike (take place messages) message × (treated ≡ copy))
    ⊎ ((¬ HasLike (take place messages) message)
    × Contains rows (record { number = message.number; treated = treated }))

-- What the entries of a hart with these messages do, where this mode is handed in, and which of them are far.
pub record HartTreats (words : Words) (mode : Mode) (messages : List Message) : Type 0 where
  pub entries : List Entry
  pub upto : List Entry
  pub beyond : List Entry
  pub shares : List Share
  pub are_entries : AreEntries messages entries
  pub cut : AreCutAtEnd words (own_mode mode entries) entries upto beyond
  pub are_shares : HartShares words (own_mode mode entries) upto beyond shares
  pub far : List Bool
  pub are_far : AreFar entries far

-- The rows of a hart.
abbrev pub hart_rows : {words : Words} {mode : Mode} {messages : List Message} → HartTreats words mode messages
    → List Row
hart_rows treats = rows treats.are_far.among treats.entries (map treatment_of treats.shares)

-- No hart has a use of a stranger.
abbrev pub stranger : Treated
stranger = record { treatment = treatment.Stranger; far = false; late = false }

-- The place of a message among those of its hart: how many of them came before it.
abbrev pub own_place : List Message → ℕ → Message → ℕ
own_place messages at message = length (own_messages message.hart (take at messages))

-- This is done with each of these messages of so many harts, where this mode is handed in: a stranger is passed over, and
-- every other message is treated by its own hart's messages alone.
pub record AreTreated (words : Words) (mode : Mode) (harts : ℕ) (messages : List Message) (treated : List Treated)
    : Type 0 where
  pub count : length treated ≡ length messages
  pub each_hart : (hart : ℕ) → hart < harts → HartTreats words mode (own_messages hart messages)
  pub strangers : (at : ℕ) (message : Message) (one : Treated) → slice_get messages at ≡ Some message
      → slice_get treated at ≡ Some one → is_stranger harts message ≡ true → one ≡ stranger
  pub others : (at : ℕ) (message : Message) (one : Treated) → slice_get messages at ≡ Some message
      → slice_get treated at ≡ Some one → is_stranger harts message ≡ false → (known : message.hart < harts)
      → IsTreated (own_messages message.hart messages) (hart_rows (each_hart message.hart known))
      (own_place messages at message) message one
