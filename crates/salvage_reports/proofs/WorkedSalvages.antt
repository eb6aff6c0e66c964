-- Lines of what is salvaged that were worked by hand, as the definitions give them.
use Rattle.std.proofs.Common.{◌≡◌, ℕ, List, [], ◌∷◌, ◌++◌, refl, true, Some, None}
use Rattle.std.specs.Fmt.{digits}
use Rattle.std.specs.List.{flat_map}
use Rattle.std.specs.Prelude.{codes}
use Rattle.frames.specs.declared.span.Span.{Span}
use Rattle.frames.specs.declared.span.Span.TheVariants.{Frame, Bytes}
use Rattle.payload.specs.declared.mode.Mode.TheVariants.{Differential, Full}
use Rattle.payload.specs.declared.fault.PackFault.TheVariants.{BadPad, Unsupported}
use Rattle.retire.specs.declared.event.Event.TheVariants.{Retire, Trap}
use Rattle.salvaging.specs.LeftParts.{LeftPart, Missing, Events, BadNumber, DoubtfulNumber, AloneNumber}
use Rattle.salvaging.specs.declared.reason.Reason.TheVariants.{Packet, Closing}
use Rattle.salvaging.specs.declared.far_number.FarNumber.{FarNumber}
use Rattle.salvaging.specs.declared.far_number.FarTreatment.TheVariants as treatment
use Rattle.salvage_reports.specs.Layouts.{texts_from}
use Rattle.salvage_reports.specs.ShownParts.{none_gone}
use Rattle.salvage_reports.specs.SalvagedItems.{counted_of, item_text, run_of, said_of, strangers_of, text_if}
use Rattle.salvage_reports.specs.declared.found_writing.Layout.TheVariants.{Summary, Table, Text}
use Rattle.salvage_reports.specs.declared.salvaged_items.Counted.TheVariants.{Copies, Late}
use Rattle.salvage_reports.specs.declared.salvaged_items.Item.{Item}
use Rattle.salvage_reports.specs.declared.salvaged_items.Item.TheVariants as item
use Rattle.salvage_reports.specs.declared.salvaged_items.Total.TheVariants as total

-- A part of each kind, where the hart's messages are at these offsets.
abbrev offsets : List ℕ
offsets = 16 ∷ 28 ∷ 0x1_0000_002C ∷ []

abbrev parts : List LeftPart
parts =
    BadNumber 0 1 (Packet Unsupported) ∷ Events 1 4 (Retire 0x8000_0000 0 3 ∷ Trap 3 true 7 0x8000_0004 0 ∷ [])
    ∷ BadNumber 13 0 (Closing 20) ∷ Missing 1 ∷ DoubtfulNumber 15 2 1 ∷ Missing 5
    ∷ Events 20 20 (Retire 0x8000_0008 0 3 ∷ []) ∷ BadNumber 21 2 (Packet BadPad) ∷ AloneNumber 24 1 ∷ []

text_of_parts : texts_from Text None 0 offsets (1 ∷ 5 ∷ []) [] none_gone parts
    ≡ codes "bad: number 0 at 0000001c: bad packet: Unsupported\n"
    ++ codes "stretch: 2 events, numbers 1 to 4\naddr,itype,priv,cause,tval\n80000000,0,3,,\n80000004,2,3,7,\n"
    ++ codes "bad: number 13 at 00000010: closing, but number 20 came\n"
    ++ codes "gap: 1 messages\ndoubtful: number 15 at 10000002c and 0000001c\ngap: 5 messages\n"
    ++ codes "stretch: 1 events, numbers 20 to 20\naddr,itype,priv,cause,tval\n80000008,0,3,,\n"
    ++ codes "bad: number 21 at 10000002c: bad packet: BadPad\nalone: number 24 at 0000001c\n"
unfolding digits
text_of_parts = refl

-- A summary has no rows.
text_of_summary : texts_from Summary None 0 offsets (1 ∷ 5 ∷ []) [] none_gone parts
    ≡ codes "bad: number 0 at 0000001c: bad packet: Unsupported\nstretch: 2 events, numbers 1 to 4\n"
    ++ codes "bad: number 13 at 00000010: closing, but number 20 came\n"
    ++ codes "gap: 1 messages\ndoubtful: number 15 at 10000002c and 0000001c\ngap: 5 messages\n"
    ++ codes "stretch: 1 events, numbers 20 to 20\n"
    ++ codes "bad: number 21 at 10000002c: bad packet: BadPad\nalone: number 24 at 0000001c\n"
unfolding digits
text_of_summary = refl

-- The rows of the same parts of hart 2.
rows_of_parts : texts_from Table None 2 offsets (1 ∷ 5 ∷ []) [] none_gone parts
    ≡ codes "bad,2,0,,,0000001c,,,,bad packet: Unsupported\nstretch,2,1,4,2,,,,,\n"
    ++ codes "bad,2,13,,,00000010,,,,\"closing, but number 20 came\"\n"
    ++ codes "gap,2,,,1,,,,,\ndoubtful,2,15,,,10000002c,0000001c,,,\ngap,2,,,5,,,,,\n"
    ++ codes "stretch,2,20,20,1,,,,,\nbad,2,21,,,10000002c,,,,bad packet: BadPad\nalone,2,24,,,0000001c,,,,\n"
unfolding digits
rows_of_parts = refl

-- Far numbers: 60 begins a stretch, 80 is passed over, and 90 is bad. No gap is before one of them, and 100 comes 94 after 5.
abbrev unbelieved : List LeftPart
unbelieved =
    Missing 54 ∷ Events 60 60 (Retire 0x8000_0000 0 3 ∷ []) ∷ Missing 19 ∷ Missing 9 ∷ BadNumber 90 2 (Packet BadPad)
    ∷ Missing 9 ∷ Events 100 101 (Retire 0x8000_0004 0 3 ∷ []) ∷ []

abbrev far : List FarNumber
far =
    record { number = 60; place = 1; treatment = treatment.Taken }
    ∷ record { number = 80; place = 0; treatment = treatment.Passed }
    ∷ record { number = 90; place = 2; treatment = treatment.Bad } ∷ []

far_lines : texts_from Summary None 0 offsets (0 ∷ 0 ∷ 0 ∷ 94 ∷ []) far none_gone unbelieved
    ≡ codes "far: number 60 at 0000001c\nstretch: 1 events, numbers 60 to 60\nfar: number 80 at 00000010\n"
    ++ codes "bad: number 90 at 10000002c: bad packet: BadPad\ngap: 94 messages\nstretch: 1 events, numbers 100 to 101\n"
unfolding digits
far_lines = refl

far_rows : texts_from Table None 3 offsets (0 ∷ 0 ∷ 0 ∷ 94 ∷ []) far none_gone unbelieved
    ≡ codes "far,3,60,,,0000001c,,,,\nstretch,3,60,60,1,,,,,\nfar,3,80,,,00000010,,,,\n"
    ++ codes "bad,3,90,,,10000002c,,,,bad packet: BadPad\ngap,3,,,94,,,,,\nstretch,3,100,101,1,,,,,\n"
unfolding digits
far_rows = refl

-- A hart's mode has a line where it is another than the header's.
mode_of_full : text_if Text (said_of 0 (Some (record { mode = Differential; period = 2; harts = 1 })) Full)
    ≡ codes "mode: full, the header says differential\n"
mode_of_full = refl

mode_of_differential : text_if Summary (said_of 0 (Some (record { mode = Full; period = 2; harts = 1 })) Differential)
    ≡ codes "mode: differential, the header says full\n"
mode_of_differential = refl

mode_of_neither : text_if Text (said_of 0 (Some (record { mode = Full; period = 2; harts = 1 })) Full)
    ++ text_if Text (said_of 0 None Full) ≡ []
mode_of_neither = refl

-- Bytes have a line, and a frame has none.
lines_of_runs : flat_map (λ (span : Span). text_if Text (run_of span))
    (Bytes 16 3 ∷ Frame 19 (record { hart = 0; number = 1; payload = 0x0A ∷ [] }) ∷ Bytes 31 1024 ∷ []) ≡ codes "bytes: 3 at 00000010\nbytes: 1024 at 0000001f\n"
unfolding digits
lines_of_runs = refl

-- A count has a line where it is not 0.
line_of_none : text_if Text (counted_of 0 Copies 0) ≡ []
line_of_none = refl

line_of_one : text_if Text (counted_of 0 Late 1) ≡ codes "late: 1 messages\n"
unfolding digits
line_of_one = refl

line_of_many : text_if Text (strangers_of 1024) ≡ codes "strangers: 1024 messages\n"
unfolding digits
line_of_many = refl

-- The last line of all harts, and the last rows.
abbrev pieces : List Item
pieces =
    item.All total.Rows 28 2 14 ∷ item.All total.Decoded 7 2 14 ∷ item.All total.Passed 1 2 14
    ∷ item.All total.Far 0 2 14 ∷ item.All total.Bad 2 2 14 ∷ item.All total.Alone 1 2 14
    ∷ item.All total.Doubtful 2 2 14 ∷ item.All total.Copies 1 2 14 ∷ item.All total.Strangers 0 2 14
    ∷ item.All total.Late 3 2 14 ∷ item.All total.Bytes 515 2 14 ∷ []

line_of_all : flat_map (item_text Text) pieces
    ≡ codes "all: 28 rows of 2 harts, 14 messages: 7 decoded, 1 passed, 0 far, 2 bad, 1 alone, 2 doubtful, "
    ++ codes "1 copies, 0 strangers; 3 late, 515 bytes\n"
unfolding digits
line_of_all = refl

rows_of_all : flat_map (item_text Table) pieces
    ≡ codes "all,,,,28,,,,,rows\nall,,,,7,,,,,decoded\nall,,,,1,,,,,passed\nall,,,,0,,,,,far\nall,,,,2,,,,,bad\n"
    ++ codes "all,,,,1,,,,,alone\nall,,,,2,,,,,doubtful\nall,,,,1,,,,,copies\nall,,,,0,,,,,strangers\n"
    ++ codes "all,,,,3,,,,,late\nall,,,,515,,,,,bytes\n"
unfolding digits
rows_of_all = refl
