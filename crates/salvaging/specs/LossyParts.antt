-- What is salvaged of messages that are collected without a fault.
use Rattle.std.specs.Prelude.{ℕ, ◌≡◌, List, [], Some, slice_get}
use Rattle.losses.specs.PartsIn.{parts_in as collected_parts}
use Rattle.losses.specs.declared.part.HartPieces.{HartPieces}
use Rattle.salvaging.specs.FarGaps.{missing_in}
use Rattle.salvaging.specs.LogsSalvaged.{AreLogParts}
use Rattle.salvaging.specs.PartsIn.{parts_in}
use Rattle.salvaging.specs.declared.salvaged.SalvagedHart.{SalvagedHart}
use Rattle.salvaging.specs.declared.salvaged.Salvaged.{Salvaged}

-- What is salvaged of a hart is what is collected of it: the same parts, none of them bad or doubtful, and the same
-- flag. No message is a copy or late. Its gaps are reported as they are, and no number is far.
pub record IsCollected {A B : Type 0} (pieces : HartPieces A) (hart : SalvagedHart B) : Type 0 where
  pub parts : AreLogParts (parts_in hart.parts.items) (collected_parts pieces.parts.items)
  pub closed : hart.closed ≡ pieces.closed
  pub copies : hart.copies ≡ 0
  pub late : hart.late ≡ 0
  pub gaps : hart.gaps.items ≡ missing_in (parts_in hart.parts.items)
  pub far : hart.far.items ≡ []

-- What is salvaged of each hart is what is collected of it, and there is no stranger.
pub record AreCollectedToo {A B : Type 0} (pieces : List (HartPieces A)) (salvaged : Salvaged B) : Type 0 where
  pub each : (hart : ℕ) (collected : HartPieces A) (own : SalvagedHart B) → slice_get pieces hart ≡ Some collected
      → slice_get salvaged.harts.items hart ≡ Some own → IsCollected collected own
  pub strangers : salvaged.strangers ≡ 0
