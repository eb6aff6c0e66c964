-- How many messages are copies, late or strangers, by what is done with each.
use Rattle.std.specs.Prelude.{ℕ, ◌≡◌, ◌&&◌, ◌==◌, if◌then◌else◌, Bool, true, false, List, [], ◌∷◌, Some, count_by}
use Rattle.std.specs.Prelude.{slice_get, sum_by}
use Rattle.message.specs.declared.message.Message.{Message}
use Rattle.salvaging.specs.LeftParts.{LeftPart, BadNumber, AloneNumber}
use Rattle.salvaging.specs.PartsIn.{parts_in}
use Rattle.salvaging.specs.Strangers.{has_number}
use Rattle.salvaging.specs.declared.salvaged.SalvagedHart.{SalvagedHart}
use Rattle.salvaging.specs.declared.salvaged.Salvaged.{Salvaged}
use Rattle.salvaging.specs.declared.treatment.Treated.{Treated}
use Rattle.salvaging.specs.declared.treatment.Treatment.{Treatment}
use Rattle.salvaging.specs.declared.treatment.Treatment.TheVariants as treatment

-- The message is the hart's own: it is of the hart, and its number is one that a hart may have.
abbrev pub is_own : ℕ → Message → Bool
is_own hart message = message.hart == hart && has_number message

-- Of items, one for each of these messages in their order, those of a hart's own messages.
abbrev pub own_of : {X : Type 0} → ℕ → List Message → List X → List X
own_of hart [] items = []
own_of hart (message ∷ messages) [] = []
own_of hart (message ∷ messages) (item ∷ items) =
    if is_own hart message then item ∷ own_of hart messages items else own_of hart messages items

-- It is a stranger.
abbrev pub makes_stranger : Treatment → Bool
makes_stranger treatment.Stranger = true
makes_stranger other = false

-- It is a copy.
abbrev pub makes_copy : Treatment → Bool
makes_copy treatment.Copy = true
makes_copy other = false

-- It is bad.
abbrev pub makes_bad : Treatment → Bool
makes_bad (treatment.Bad why) = true
makes_bad other = false

-- It stands alone.
abbrev pub makes_alone : Treatment → Bool
makes_alone treatment.Alone = true
makes_alone other = false

-- It is decoded.
abbrev pub makes_taken : Treatment → Bool
makes_taken (treatment.Taken added) = true
makes_taken other = false

-- It is passed over.
abbrev pub makes_passed : Treatment → Bool
makes_passed treatment.Passed = true
makes_passed other = false

-- Its number is doubtful.
abbrev pub makes_doubtful : Treatment → Bool
makes_doubtful treatment.Doubtful = true
makes_doubtful other = false

-- How many of the messages with which this is done are such.
abbrev pub count_treated : (Treatment → Bool) → List Treated → ℕ
count_treated is_such treated = count_by (λ (one : Treated). is_such one.treatment) treated

-- How many of them are late.
abbrev pub count_late : List Treated → ℕ
count_late treated = count_by (λ (one : Treated). one.late) treated

-- The part is a bad number.
abbrev pub is_bad_number : LeftPart → Bool
is_bad_number (BadNumber number place why) = true
is_bad_number other = false

-- The part is a number that stands alone.
abbrev pub is_alone_number : LeftPart → Bool
is_alone_number (AloneNumber number place) = true
is_alone_number other = false

-- What is done with the messages of a hart counts as what is salvaged of it does. As many are copies, as many are late,
-- and as many are decoded, passed over and of doubtful numbers. As many are bad as its parts have bad numbers, and as
-- many are alone as its parts have numbers that stand alone.
pub record AreCountedAlike {A : Type 0} (treated : List Treated) (hart : SalvagedHart A) : Type 0 where
  pub copies : count_treated makes_copy treated ≡ hart.copies
  pub late : count_late treated ≡ hart.late
  pub decoded : count_treated makes_taken treated ≡ hart.decoded
  pub passed : count_treated makes_passed treated ≡ hart.passed
  pub doubtful : count_treated makes_doubtful treated ≡ hart.doubtful
  pub bad : count_treated makes_bad treated ≡ count_by is_bad_number (parts_in hart.parts.items)
  pub alone : count_treated makes_alone treated ≡ count_by is_alone_number (parts_in hart.parts.items)

-- What is done with each of these messages counts as what is salvaged of them does, hart by hart. So as many of all are
-- copies, and as many are late, as are counted of all harts. As many are strangers.
pub record AreCountedToo {A : Type 0} (messages : List Message) (treated : List Treated) (salvaged : Salvaged A)
    : Type 0 where
  pub each : (hart : ℕ) (own : SalvagedHart A) → slice_get salvaged.harts.items hart ≡ Some own
      → AreCountedAlike (own_of hart messages treated) own
  pub copies : count_treated makes_copy treated ≡ sum_by (λ (own : SalvagedHart A). own.copies) salvaged.harts.items
  pub late : count_late treated ≡ sum_by (λ (own : SalvagedHart A). own.late) salvaged.harts.items
  pub strangers : count_treated makes_stranger treated ≡ salvaged.strangers
