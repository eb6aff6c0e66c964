-- What is counted of all harts that a report is on.
use Rattle.std.specs.Prelude.{ℕ, ◌+◌, ◌-◌, ◌^◌, nat_lt, if◌then◌else◌, List, [], ◌∷◌, length, sum_by}
use Rattle.std.specs.List.{flat_map}
use Rattle.std.specs.declared.alloc.Global.{Global}
use Rattle.frames.specs.declared.span.Span.{Span}
use Rattle.frames.specs.declared.span.Span.TheVariants.{Frame, Bytes}
use Rattle.salvaging.specs.FarGaps.{far_passed, far_taken}
use Rattle.salvaging.specs.LeftParts.{LeftPart}
use Rattle.salvaging.specs.PartsIn.{parts_in}
use Rattle.salvaging.specs.TreatedCounts.{is_alone_number, is_bad_number}
use Rattle.salvaging.specs.TreatedParts.{events_in}
use Rattle.salvaging.specs.declared.salvaged.SalvagedHart.{SalvagedHart}
use Rattle.salvage_reports.specs.SalvagedItems.{item_text}
use Rattle.salvage_reports.specs.declared.found_writing.Layout.{Layout}
use Rattle.salvage_reports.specs.declared.salvaged_items.Item.TheVariants as item
use Rattle.salvage_reports.specs.declared.salvaged_items.Total.{Total}
use Rattle.salvage_reports.specs.declared.salvaged_items.Total.TheVariants as total

-- A sum as it is counted: up to 2^64 - 1, which no capture reaches.
abbrev pub capped : ℕ → ℕ
capped sum = if nat_lt sum (2 ^ 64) then sum else 2 ^ 64 - 1

-- How much of a part is counted: its events, or the part where it is a bad or an alone number.
abbrev pub part_count : Total → LeftPart → ℕ
part_count total.Rows part = length (events_in (part ∷ []))
part_count total.Bad part = if is_bad_number part then 1 else 0
part_count total.Alone part = if is_alone_number part then 1 else 0
part_count other part = 0

-- What is counted of a hart. A far number is not counted once more where it is decoded or passed over.
abbrev pub hart_count : Total → SalvagedHart Global → ℕ
hart_count total.Rows own = sum_by (part_count total.Rows) (parts_in own.parts.items)
hart_count total.Decoded own = own.decoded - far_taken own.far.items
hart_count total.Passed own = own.passed - far_passed own.far.items
hart_count total.Far own = far_taken own.far.items + far_passed own.far.items
hart_count total.Bad own = sum_by (part_count total.Bad) (parts_in own.parts.items)
hart_count total.Alone own = sum_by (part_count total.Alone) (parts_in own.parts.items)
hart_count total.Doubtful own = own.doubtful
hart_count total.Copies own = own.copies
hart_count total.Late own = own.late
hart_count other own = 0

-- How many bytes of a span belong to no frame.
abbrev pub loose_bytes : Span → ℕ
loose_bytes (Frame offset message) = 0
loose_bytes (Bytes offset count) = count

-- What is counted of these harts, where these are the spans of the capture and so many messages are strangers.
abbrev pub total_of : List (SalvagedHart Global) → List Span → ℕ → Total → ℕ
total_of harts spans strangers total.Strangers = strangers
total_of harts spans strangers total.Bytes = capped (sum_by loose_bytes spans)
total_of harts spans strangers what = capped (sum_by (hart_count what) harts)

-- What is counted, in the order in which it is written.
abbrev pub all_totals : List Total
all_totals =
    total.Rows ∷ total.Decoded ∷ total.Passed ∷ total.Far ∷ total.Bad ∷ total.Alone ∷ total.Doubtful ∷ total.Copies
    ∷ total.Strangers ∷ total.Late ∷ total.Bytes ∷ []

-- The piece or the row of one of these, where the harts have so many messages.
abbrev pub total_item : Layout → List (SalvagedHart Global) → List Span → ℕ → ℕ → Total → List ℕ
total_item layout harts spans strangers messages what =
    item_text layout (item.All what (total_of harts spans strangers what) (length harts) messages)

-- The last line, or the last rows.
abbrev pub totals_text : Layout → List (SalvagedHart Global) → List Span → ℕ → ℕ → List ℕ
totals_text layout harts spans strangers messages =
    flat_map (total_item layout harts spans strangers messages) all_totals
