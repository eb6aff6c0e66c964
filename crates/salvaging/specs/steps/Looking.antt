-- How the first of messages that are alike is found.
use Rattle.std.specs.Prelude.{ℕ, ◌≡◌, ◌≤◌, ◌==◌, Bool, true, false, Contains, List, Option, Some, None}
use Rattle.std.specs.Cmp.Lexicographic.{slice_cmp}
use Rattle.std.specs.Ordering.{nat_cmp}
use Rattle.std.specs.declared.cmp.Ordering.{Ordering}
use Rattle.std.specs.declared.cmp.Ordering.TheVariants.{Less, Equal}
use Rattle.message.specs.declared.message.Message.{Message}
use Rattle.salvaging.specs.steps.Arrivals.{Arrival}

-- The number is lower, or it is the same and the payload comes before the other.
abbrev pub below_by : Ordering → Ordering → Bool
below_by Less payload = true
below_by Equal Less = true
below_by number payload = false

-- A message comes before those with this number and this payload.
abbrev pub is_below : Message → Arrival → Bool
is_below message one =
    below_by (nat_cmp one.message.number message.number) (slice_cmp nat_cmp one.message.payload message.payload)

-- The place is that of the first of the messages that are like this one.
pub record IsFirstLike (arrivals : List Arrival) (message : Message) (found : Option ℕ) : Type 0 where
  pub first : Arrival
  pub found_is : found ≡ Some first.place
  pub there : Contains arrivals first
  pub number : first.message.number ≡ message.number
  pub payload : first.message.payload ≡ message.payload
  pub earliest : (other : Arrival) → Contains arrivals other → other.message.number ≡ message.number
      → other.message.payload ≡ message.payload → first.place ≤ other.place

-- The place that was found is this one.
abbrev pub is_place : Option ℕ → ℕ → Bool
is_place None place = false
is_place (Some found) place = found == place
