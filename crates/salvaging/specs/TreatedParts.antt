-- What the parts of a hart's log have in common with what is done with its messages.
use Rattle.std.specs.Prelude.{ℕ, ◌≡◌, ◌+◌, ◌++◌, All, List, [], ◌∷◌, Some, length, slice_get}
use Rattle.retire.specs.declared.event.Event.{Event}
use Rattle.rvclass.specs.Words.{Words}
use Rattle.payload.specs.declared.mode.Mode.{Mode}
use Rattle.message.specs.declared.message.Message.{Message}
use Rattle.salvaging.specs.AlikeParts.{AreAlikeParts, AreAlikeReasons}
use Rattle.salvaging.specs.Entries.{Entry, Used, Doubtful}
use Rattle.salvaging.specs.LeftParts.{LeftPart, Missing, Events, BadNumber, DoubtfulNumber, AloneNumber}
use Rattle.salvaging.specs.Shares.{Share, Adds, Spoils, StandsAlone, Doubts}
use Rattle.salvaging.specs.Treatments.{HartTreats, IsTreated, Row, hart_rows}
use Rattle.salvaging.specs.declared.reason.Reason.{Reason}
use Rattle.salvaging.specs.declared.treatment.Treated.{Treated}
use Rattle.salvaging.specs.declared.treatment.Treatment.{Treatment}
use Rattle.salvaging.specs.declared.treatment.Treatment.TheVariants as treatment

-- The events of the stretches among these parts, one stretch after the other.
abbrev pub events_in : List LeftPart → List Event
events_in [] = []
events_in (Events first last events ∷ parts) = events ++ events_in parts
events_in (part ∷ parts) = events_in parts

-- The events that entries add, one entry after the other.
abbrev pub added_in : List Share → List Event
added_in [] = []
added_in (Adds events ∷ shares) = events ++ added_in shares
added_in (share ∷ shares) = added_in shares

-- The numbers among these parts that are bad, doubtful or alone.
abbrev pub marks_in : List LeftPart → List LeftPart
marks_in [] = []
marks_in (Missing count ∷ parts) = marks_in parts
marks_in (Events first last events ∷ parts) = marks_in parts
marks_in (part ∷ parts) = part ∷ marks_in parts

-- The number of an entry as a bad, doubtful or alone one, by what the entry does; none where it is good.
abbrev pub mark_of : Entry → Share → List LeftPart
mark_of (Used number place payload) (Spoils why) = BadNumber number place why ∷ []
mark_of (Used number place payload) StandsAlone = AloneNumber number place ∷ []
mark_of (Doubtful number first second) Doubts = DoubtfulNumber number first second ∷ []
mark_of entry share = []

-- The numbers of entries that are bad, doubtful or alone.
abbrev pub marks_of : List Entry → List Share → List LeftPart
marks_of [] shares = []
marks_of (entry ∷ entries) [] = []
marks_of (entry ∷ entries) (share ∷ shares) = mark_of entry share ++ marks_of entries shares

-- How many events a message adds of which this is done.
abbrev pub taken_by : Treatment → ℕ
taken_by (treatment.Taken added) = added.count
taken_by other = 0

-- How many events the messages of these rows add.
abbrev pub events_taken : List Row → ℕ
events_taken [] = 0
events_taken (row ∷ rows) = taken_by row.treated.treatment + events_taken rows

-- What is done with the message at this place of a hart's messages, by these rows, is such.
abbrev pub IsTreatedSo : List Message → List Row → ℕ → (Treatment → Type 0) → Type 0
IsTreatedSo messages rows place IsSuch =
    (message : Message) (treated : Treated) → slice_get messages place ≡ Some message
    → IsTreated messages rows place message treated → IsSuch treated.treatment

-- The message is bad for this reason, but for which fault of a decoder it is.
abbrev pub IsBadFor : Reason → Treatment → Type 0
IsBadFor why (treatment.Bad other) = AreAlikeReasons why other
IsBadFor why other = ⊥

-- Where a part is a bad, doubtful or alone number, the message at its place, or at both, is treated as such.
abbrev pub IsMarkedAt : List Message → List Row → LeftPart → Type 0
IsMarkedAt messages rows (BadNumber number place why) = IsTreatedSo messages rows place (IsBadFor why)
IsMarkedAt messages rows (AloneNumber number place) = IsTreatedSo messages rows place (λ t. t ≡ treatment.Alone)
IsMarkedAt messages rows (DoubtfulNumber number first second) =
    IsTreatedSo messages rows first (λ t. t ≡ treatment.Doubtful)
    × IsTreatedSo messages rows second (λ t. t ≡ treatment.Doubtful)
IsMarkedAt messages rows other = Unit {0}

-- The parts of a hart are what its entries do. The same numbers are bad, doubtful and alone, at the same places, but
-- for which fault of a decoder a bad number has. The messages at these places are treated as such. The events of the
-- hart's stretches are those that the entries add, and the messages of its rows are said to add as many.
pub record AreTreatedParts {words : Words} {mode : Mode} {messages : List Message} (parts : List LeftPart)
    (treats : HartTreats words mode messages) : Type 0 where
  pub marks : AreAlikeParts (marks_in parts) (marks_of treats.entries treats.shares)
  pub places : All (IsMarkedAt messages (hart_rows treats)) parts
  pub events : events_in parts ≡ added_in treats.shares
  pub count : events_taken (hart_rows treats) ≡ length (events_in parts)
