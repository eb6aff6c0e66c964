-- What is found of the harts of a capture.
use Rattle.std.specs.Prelude.{ℕ, ◌≡◌, List, length}
use Rattle.bench.specs.Got.{Got}
use Rattle.comparing.specs.Compared.{AreGotOf, gots_by, of_harts}
use Rattle.comparing.specs.steps.Held.{count_in}
use Rattle.message.specs.declared.range.HartRange.{HartRange}
use Rattle.parallel_decode.specs.Placed.{ArePlacedLogs}
use Rattle.retire.specs.declared.event.Event.{Event}
use Rattle.rvclass.specs.Words.{Words}
use Rattle.capture_commands.specs.declared.surveyed.Surveyed.{Surveyed}

-- What is found of each of these harts, where the messages of all decode to these lists.
abbrev pub gots_in : HartRange → List (List Event) → Surveyed → List Got
gots_in range lists found = of_harts range (gots_by (count_in found.counts.items) 0 lists found.closed.items)

-- The messages of each hart are at the places of its list, their packets describe its events, and there is a flag for
-- each.
pub record AreFound (words : Words) (found : Surveyed) (lists : List (List Event)) : Type 0 where
  pub placed : ArePlacedLogs words found.messages.now found.places.items lists
  pub flags : length found.closed.items ≡ length lists

-- The bytes of a capture decode to what is found of each of these harts, and decoding stops there.
pub record IsSurveyed (range : HartRange) (words : Words) (harts : ℕ) (bytes : List ℕ) (found : Surveyed) : Type 0 where
  pub lists : List (List Event)
  pub are : AreFound words found lists
  pub got : AreGotOf range words harts bytes (gots_in range lists found) found.stop
