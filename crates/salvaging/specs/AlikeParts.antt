-- What two that are salvaged of the same messages have in common.
use Rattle.std.specs.Prelude.{◌≡◌, ◌↔◌, List, [], ◌∷◌}
use Rattle.decoder.specs.declared.fault.DecodeFault.TheVariants.{NotOpened}
use Rattle.salvaging.specs.LeftParts.{LeftPart, Missing, Events, BadNumber, DoubtfulNumber, AloneNumber}
use Rattle.salvaging.specs.PartsIn.{parts_in}
use Rattle.salvaging.specs.declared.reason.Reason.{Reason}
use Rattle.salvaging.specs.declared.reason.Reason.TheVariants as reason
use Rattle.salvaging.specs.declared.salvaged.SalvagedHart.{SalvagedHart}

-- The reasons are the same but for which fault of a decoder it is: both are NotOpened, or neither is.
abbrev pub AreAlikeReasons : Reason → Reason → Type 0
AreAlikeReasons (reason.Packet one) (reason.Packet other) = one ≡ other
AreAlikeReasons (reason.Decode one) (reason.Decode other) = (one ≡ NotOpened) ↔ (other ≡ NotOpened)
AreAlikeReasons (reason.Closing one) (reason.Closing other) = one ≡ other
AreAlikeReasons one other = ⊥

-- The parts are the same but for which fault of a decoder a bad number has.
abbrev pub AreAlikeParts : List LeftPart → List LeftPart → Type 0
AreAlikeParts [] [] = Unit {0}
AreAlikeParts (Missing one ∷ left) (Missing other ∷ others) = (one ≡ other) × AreAlikeParts left others
AreAlikeParts (Events first last events ∷ left) (Events begun ended stretch ∷ others) =
    (first ≡ begun) × (last ≡ ended) × (events ≡ stretch) × AreAlikeParts left others
AreAlikeParts (BadNumber one place why ∷ left) (BadNumber other at fault ∷ others) =
    (one ≡ other) × (place ≡ at) × AreAlikeReasons why fault × AreAlikeParts left others
AreAlikeParts (DoubtfulNumber one first second ∷ left) (DoubtfulNumber other place at ∷ others) =
    (one ≡ other) × (first ≡ place) × (second ≡ at) × AreAlikeParts left others
AreAlikeParts (AloneNumber one place ∷ left) (AloneNumber other at ∷ others) =
    (one ≡ other) × (place ≡ at) × AreAlikeParts left others
AreAlikeParts left others = ⊥

-- The same is salvaged of a hart, but for which fault of a decoder a bad number has.
pub record AreAlikeHarts {A B : Type 0} (one : SalvagedHart A) (other : SalvagedHart B) : Type 0 where
  pub parts : AreAlikeParts (parts_in one.parts.items) (parts_in other.parts.items)
  pub copies : one.copies ≡ other.copies
  pub late : one.late ≡ other.late
  pub gaps : one.gaps.items ≡ other.gaps.items
  pub far : one.far.items ≡ other.far.items
  pub closed : one.closed ≡ other.closed
  pub mode : one.mode ≡ other.mode
