-- Each message is counted once among the counts of all harts that a report is on.
use Rattle.std.specs.Prelude.{ℕ, ◌≡◌, ◌<◌, ◌^◌, List, [], ◌∷◌, Option, length, sum_by}
use Rattle.frames.specs.Start.{spans_of}
use Rattle.message.specs.declared.range.HartRange.{HartRange}
use Rattle.rvclass.specs.Image.{Image}
use Rattle.salvage_reports.specs.Found.{IsFound}
use Rattle.salvage_reports.specs.HartItems.{items_of}
use Rattle.salvage_reports.specs.Totals.{total_of}
use Rattle.salvage_reports.specs.declared.found.Found.{Found}
use Rattle.salvage_reports.specs.declared.salvaged_items.Total.{Total}
use Rattle.salvage_reports.specs.declared.salvaged_items.Total.TheVariants as total

-- What a message may be counted as.
abbrev pub kinds : List Total
kinds =
    total.Decoded ∷ total.Passed ∷ total.Far ∷ total.Bad ∷ total.Alone ∷ total.Doubtful ∷ total.Copies ∷ total.Strangers
    ∷ []

-- The counts of these come to as many messages as are found of the harts of a report, if there are fewer than 2^64.
abbrev pub TotalsAddUp : Type 0
TotalsAddUp =
    (only : HartRange) (asked : Option ℕ) (program : Image) (bytes : List ℕ) (found : Found)
    → IsFound only asked program bytes found → length found.frames.messages.items < 2 ^ 64
    → sum_by (total_of (items_of only found.salvaged.harts.items) (spans_of found.header bytes) found.salvaged.strangers)
    kinds ≡ length found.frames.messages.items
