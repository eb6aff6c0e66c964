-- What is salvaged of a capture that may be damaged, in a layout.
use Rattle.std.specs.Prelude.{ℕ, ◌++◌, List, [], ◌∷◌, Option, length}
use Rattle.std.specs.List.{flat_map}
use Rattle.std.specs.declared.alloc.Global.{Global}
use Rattle.parallel_decode.specs.EachHart.{joined_harts}
use Rattle.frames.specs.Search.{chosen}
use Rattle.frames.specs.Start.{spans_of}
use Rattle.frames.specs.declared.span.Span.{Span}
use Rattle.message.specs.declared.range.HartRange.{HartRange}
use Rattle.message.specs.declared.header.Header.{Header}
use Rattle.output.specs.Fields.{fields_line}
use Rattle.retire.specs.LogText.{log_text}
use Rattle.retire.specs.declared.event.Event.{Event}
use Rattle.salvaging.specs.LeftParts.{LeftPart, Events}
use Rattle.salvaging.specs.PartsIn.{parts_in}
use Rattle.salvaging.specs.declared.far_number.FarNumber.{FarNumber}
use Rattle.salvaging.specs.declared.salvaged.Salvaged.{Salvaged}
use Rattle.salvaging.specs.declared.salvaged.SalvagedHart.{SalvagedHart}
use Rattle.salvage_reports.specs.Frames.{messages_in}
use Rattle.salvage_reports.specs.HartItems.{items_of}
use Rattle.salvage_reports.specs.Offsets.{offsets_in, own_offsets}
use Rattle.salvage_reports.specs.SalvagedItems.{columns, counted_of, item_text, run_of, said_of, strangers_of}
use Rattle.salvage_reports.specs.SalvagedItems.{text_if}
use Rattle.salvage_reports.specs.ShownParts.{gone_after, none_gone, shown_item}
use Rattle.salvage_reports.specs.StretchEnds.{stretch_end}
use Rattle.salvage_reports.specs.Totals.{totals_text}
use Rattle.salvage_reports.specs.declared.found.Found.{Found}
use Rattle.salvage_reports.specs.declared.found_writing.Layout.{Layout}
use Rattle.salvage_reports.specs.declared.found_writing.Layout.TheVariants.{Summary, Table, Text}
use Rattle.salvage_reports.specs.declared.salvaged_items.Counted.TheVariants as counted
use Rattle.salvage_reports.specs.declared.salvaged_items.Item.TheVariants as item
use Rattle.salvage_reports.specs.declared.shown_parts.Gone.{Gone}

-- The text of a stretch's log. In a summary and in a table there is none.
abbrev pub rows_text : Layout → List Event → List ℕ
rows_text Text events = log_text events
rows_text Summary events = []
rows_text Table events = []

-- The same of any part: no other has a log.
abbrev pub log_of : Layout → LeftPart → List ℕ
log_of layout (Events first last events) = rows_text layout events
log_of layout other = []

-- What ends the line of a stretch, by the symbols of a file, if there is one. A row ends by itself.
abbrev pub end_text : Layout → Option (List ℕ) → List Event → List ℕ
end_text Table symbols events = []
end_text Text symbols events = stretch_end symbols events
end_text Summary symbols events = stretch_end symbols events

-- The same of any part: every other line ends by itself.
abbrev pub end_of : Layout → Option (List ℕ) → LeftPart → List ℕ
end_of layout symbols (Events first last events) = end_text layout symbols events
end_of layout symbols other = []

-- What comes after the item of a part: the end of a stretch's line, and its log.
abbrev pub behind_item : Layout → Option (List ℕ) → LeftPart → List ℕ
behind_item layout symbols part = end_of layout symbols part ++ log_of layout part

-- What is said of a part of this hart's log, the end of a stretch's line, and the log of a stretch. So many of the hart's
-- gaps and of its far numbers were before the part.
abbrev pub part_text : Layout → Option (List ℕ) → ℕ → List ℕ → List ℕ → List FarNumber → Gone → LeftPart → List ℕ
part_text layout symbols hart offsets gaps far gone part =
    text_if layout (shown_item hart offsets gaps far gone part) ++ behind_item layout symbols part

-- The texts of the parts, in order.
abbrev pub texts_from : Layout → Option (List ℕ) → ℕ → List ℕ → List ℕ → List FarNumber → Gone → List LeftPart → List ℕ
texts_from layout symbols hart offsets gaps far gone [] = []
texts_from layout symbols hart offsets gaps far gone (part ∷ parts) =
    part_text layout symbols hart offsets gaps far gone part
    ++ texts_from layout symbols hart offsets gaps far (gone_after gaps far gone part) parts

-- Those of all parts of a hart.
abbrev pub parts_text : Layout → Option (List ℕ) → ℕ → List ℕ → SalvagedHart Global → List ℕ
parts_text layout symbols hart offsets own =
    texts_from layout symbols hart offsets own.gaps.items own.far.items none_gone (parts_in own.parts.items)

-- How many of a hart's messages are copies and how many are late.
abbrev pub counts_text : Layout → ℕ → SalvagedHart Global → List ℕ
counts_text layout hart own =
    text_if layout (counted_of hart counted.Copies own.copies) ++ text_if layout (counted_of hart counted.Late own.late)

-- The text of a hart: its own item; where it is read in another mode than the header says, that mode; its parts; and
-- the counts. The offsets are those of its messages, by their places.
abbrev pub hart_text : Layout → Option (List ℕ) → Option Header → ℕ → List ℕ → SalvagedHart Global → List ℕ
hart_text layout symbols header hart offsets own =
    item_text layout (item.Hart hart own.mode own.closed) ++ (text_if layout (said_of hart header own.mode)
    ++ (parts_text layout symbols hart offsets own ++ counts_text layout hart own))

-- What comes before the harts: in a table the names of its columns.
abbrev pub front_text : Layout → List ℕ
front_text Table = fields_line columns
front_text Text = []
front_text Summary = []

-- Bytes that belong to no frame have a text, and a frame has none.
abbrev pub run_text : Layout → Span → List ℕ
run_text layout span = text_if layout (run_of span)

-- What comes after the harts: bytes that belong to no frame, and how many messages are strangers.
abbrev pub rest_text : Layout → List Span → ℕ → List ℕ
rest_text layout spans strangers =
    flat_map (run_text layout) spans ++ text_if layout (strangers_of strangers)

-- The report on these harts, where each of all harts has these offsets, and these harts have so many messages. The counts
-- of all of them come last.
abbrev pub report_on : Layout → Option (List ℕ) → HartRange → Option Header → List Span → ℕ → (ℕ → List ℕ)
    → Salvaged Global → List ℕ
report_on layout symbols only header spans messages offsets salvaged =
    front_text layout
    ++ (joined_harts (λ hart. hart_text layout symbols header hart (offsets hart)) only.first
    (items_of only salvaged.harts.items) ++ (rest_text layout spans salvaged.strangers
    ++ totals_text layout (items_of only salvaged.harts.items) spans salvaged.strangers messages))

-- The table of these harts, or their lines and, where it is no summary, the rows of their logs. The places of a
-- stretch are named by the symbols of a file, if there is one.
abbrev pub salvaged_as : Layout → Option (List ℕ) → HartRange → Option Header → List Span → Salvaged Global → List ℕ
salvaged_as layout symbols only header spans salvaged =
    report_on layout symbols only header spans (length (messages_in (chosen only spans))) (λ hart. offsets_in hart spans)
    salvaged

-- The same of what was found, with the offsets from the lists of the frames.
abbrev pub found_as : Layout → Option (List ℕ) → Found → List ℕ → List ℕ
found_as layout symbols found bytes =
    report_on layout symbols found.only found.header (spans_of found.header bytes) (length found.frames.messages.items)
    (own_offsets found.frames.offsets.items) found.salvaged
