-- The text of a hart that was found, and what comes after the harts.
use Rattle.std.specs.Prelude.{ℕ, ◌++◌, List, Option, length}
use Rattle.std.specs.List.{flat_map}
use Rattle.std.specs.declared.alloc.Global.{Global}
use Rattle.frames.specs.Start.{spans_of}
use Rattle.salvaging.specs.declared.salvaged.SalvagedHart.{SalvagedHart}
use Rattle.salvage_reports.specs.Layouts.{hart_text, rest_text}
use Rattle.salvage_reports.specs.HartItems.{items_of}
use Rattle.salvage_reports.specs.Offsets.{own_offsets}
use Rattle.salvage_reports.specs.Totals.{all_totals, total_item}
use Rattle.salvage_reports.specs.declared.found.Found.{Found}
use Rattle.salvage_reports.specs.declared.found_writing.Layout.{Layout}
use Rattle.salvage_reports.specs.declared.salvaged_items.Total.{Total}

-- The text of a hart of this number, with the offsets from the lists of the frames.
abbrev pub own_text : Layout → Option (List ℕ) → Found → ℕ → SalvagedHart Global → List ℕ
own_text layout symbols found hart own =
    hart_text layout symbols found.header hart (own_offsets found.frames.offsets.items hart) own

-- What is written of a count of all harts.
abbrev pub own_total : Layout → Found → List ℕ → Total → List ℕ
own_total layout found bytes what =
    total_item layout (items_of found.only found.salvaged.harts.items) (spans_of found.header bytes)
    found.salvaged.strangers (length found.frames.messages.items) what

-- What comes after the harts: bytes that belong to no frame, the count of strangers, and the counts of all harts.
abbrev pub ending_text : Layout → Found → List ℕ → List ℕ
ending_text layout found bytes =
    rest_text layout (spans_of found.header bytes) found.salvaged.strangers
    ++ flat_map (own_total layout found bytes) all_totals
