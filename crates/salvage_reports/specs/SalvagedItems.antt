-- What the lines and the rows of a report on what is salvaged say.
use Rattle.std.specs.Prelude.{ℕ, zero, suc, ◌++◌, Bool, true, false, List, [], ◌∷◌, Option, Some, None, codes, length}
use Rattle.std.specs.Fmt.{decimal}
use Rattle.parallel_decode.specs.EachHart.{hart_line}
use Rattle.captures.specs.Offsets.{bytes_line, offset_text}
use Rattle.frames.specs.declared.span.Span.{Span}
use Rattle.frames.specs.declared.span.Span.TheVariants.{Frame, Bytes}
use Rattle.message.specs.declared.header.Header.{Header}
use Rattle.output.specs.Fields.{fields_line}
use Rattle.payload.specs.declared.mode.Mode.{Mode}
use Rattle.payload.specs.declared.mode.Mode.TheVariants.{Differential, Full}
use Rattle.salvaging.specs.LeftParts.{LeftPart, Missing, Events, BadNumber, DoubtfulNumber, AloneNumber}
use Rattle.salvaging.specs.ReasonText.{reason_text}
use Rattle.salvaging.specs.declared.reason.Reason.{Reason}
use Rattle.salvaging.specs.declared.reason.Reason.TheVariants as reason
use Rattle.salvage_reports.specs.MessagesLine.{messages_line}
use Rattle.salvage_reports.specs.Offsets.{offset_at}
use Rattle.salvage_reports.specs.declared.found_writing.Layout.{Layout}
use Rattle.salvage_reports.specs.declared.found_writing.Layout.TheVariants as layout
use Rattle.salvage_reports.specs.declared.salvaged_items.Counted.{Counted}
use Rattle.salvage_reports.specs.declared.salvaged_items.Counted.TheVariants as counted
use Rattle.salvage_reports.specs.declared.salvaged_items.Item.{Item}
use Rattle.salvage_reports.specs.declared.salvaged_items.Total.{Total}
use Rattle.salvage_reports.specs.declared.salvaged_items.Total.TheVariants as total
use Rattle.salvage_reports.specs.declared.salvaged_items.Item.TheVariants as item

-- The name of a mode.
abbrev pub mode_text : Mode → List ℕ
mode_text Differential = codes "differential"
mode_text Full = codes "full"

-- The line of a hart that is read in another mode than this one, which the header says.
abbrev pub said_line : Mode → List ℕ
said_line Differential = codes "mode: full, the header says differential\n"
said_line Full = codes "mode: differential, the header says full\n"

-- Whether a hart is closed.
abbrev pub closed_text : Bool → List ℕ
closed_text true = codes "yes"
closed_text false = codes "no"

-- The name of what is counted.
abbrev pub counted_text : Counted → List ℕ
counted_text counted.Gap = codes "gap"
counted_text counted.Copies = codes "copies"
counted_text counted.Late = codes "late"

-- The name of what is counted of all harts.
abbrev pub total_text : Total → List ℕ
total_text total.Rows = codes "rows"
total_text total.Decoded = codes "decoded"
total_text total.Passed = codes "passed"
total_text total.Far = codes "far"
total_text total.Bad = codes "bad"
total_text total.Alone = codes "alone"
total_text total.Doubtful = codes "doubtful"
total_text total.Copies = codes "copies"
total_text total.Strangers = codes "strangers"
total_text total.Late = codes "late"
total_text total.Bytes = codes "bytes"

-- A count of all harts, as a piece of their line; they are so many and have so many messages.
abbrev pub total_piece : Total → ℕ → ℕ → ℕ → List ℕ
total_piece total.Rows count harts messages = codes "all: " ++ (decimal count ++ codes " rows")
total_piece total.Decoded count harts messages =
    codes " of " ++ (decimal harts ++ (codes " harts, " ++ (decimal messages ++ (codes " messages: "
    ++ (decimal count ++ codes " decoded")))))
total_piece total.Late count harts messages = codes "; " ++ (decimal count ++ codes " late")
total_piece total.Bytes count harts messages = codes ", " ++ (decimal count ++ codes " bytes\n")
total_piece what count harts messages = codes ", " ++ (decimal count ++ (codes " " ++ total_text what))

-- The line of an item: of a hart its number; the mode that the header says; how many events a stretch has, and its first
-- and its last number, without the end of the line; a count of messages; a number, with where its messages are, and why
-- it is bad; how many bytes belong to no frame, and where the first is; the count of strangers; or a piece of the line of all harts.
abbrev pub item_line : Item → List ℕ
item_line (item.Hart hart mode closed) = hart_line hart
item_line (item.Said hart said) = said_line said
item_line (item.Stretch hart first last count) =
    codes "stretch: " ++ (decimal count ++ (codes " events, numbers " ++ (decimal first ++ (codes " to "
    ++ decimal last))))
item_line (item.Messages hart what count) = messages_line (counted_text what) count
item_line (item.Bad hart number offset why) =
    codes "bad: number " ++ (decimal number ++ (codes " at " ++ (offset_text offset
    ++ (codes ": " ++ (reason_text why ++ codes "\n")))))
item_line (item.Doubtful hart number first second) =
    codes "doubtful: number " ++ (decimal number ++ (codes " at " ++ (offset_text first
    ++ (codes " and " ++ (offset_text second ++ codes "\n")))))
item_line (item.Alone hart number offset) =
    codes "alone: number " ++ (decimal number ++ (codes " at " ++ (offset_text offset ++ codes "\n")))
item_line (item.Far hart number offset) =
    codes "far: number " ++ (decimal number ++ (codes " at " ++ (offset_text offset ++ codes "\n")))
item_line (item.Run offset count) = bytes_line offset count
item_line (item.Strangers count) = messages_line (codes "strangers") count
item_line (item.All what count harts messages) = total_piece what count harts messages

-- The columns of the table.
abbrev pub columns : List (List ℕ)
columns =
    codes "kind" ∷ codes "hart" ∷ codes "number" ∷ codes "last" ∷ codes "count" ∷ codes "offset" ∷ codes "second"
    ∷ codes "mode" ∷ codes "closed" ∷ codes "reason" ∷ []

-- The fields of an item, where a reason is written in this way.
abbrev pub item_fields : (Reason → List ℕ) → Item → List (List ℕ)
item_fields written (item.Hart hart mode closed) =
    codes "hart" ∷ decimal hart ∷ [] ∷ [] ∷ [] ∷ [] ∷ [] ∷ mode_text mode ∷ closed_text closed ∷ [] ∷ []
item_fields written (item.Said hart said) =
    codes "mode" ∷ decimal hart ∷ [] ∷ [] ∷ [] ∷ [] ∷ [] ∷ mode_text said ∷ [] ∷ [] ∷ []
item_fields written (item.Stretch hart first last count) =
    codes "stretch" ∷ decimal hart ∷ decimal first ∷ decimal last ∷ decimal count ∷ [] ∷ [] ∷ [] ∷ [] ∷ [] ∷ []
item_fields written (item.Messages hart what count) =
    counted_text what ∷ decimal hart ∷ [] ∷ [] ∷ decimal count ∷ [] ∷ [] ∷ [] ∷ [] ∷ [] ∷ []
item_fields written (item.Bad hart number offset why) =
    codes "bad" ∷ decimal hart ∷ decimal number ∷ [] ∷ [] ∷ offset_text offset ∷ [] ∷ [] ∷ [] ∷ written why ∷ []
item_fields written (item.Doubtful hart number first second) =
    codes "doubtful" ∷ decimal hart ∷ decimal number ∷ [] ∷ [] ∷ offset_text first ∷ offset_text second ∷ [] ∷ [] ∷ [] ∷ []
item_fields written (item.Alone hart number offset) =
    codes "alone" ∷ decimal hart ∷ decimal number ∷ [] ∷ [] ∷ offset_text offset ∷ [] ∷ [] ∷ [] ∷ [] ∷ []
item_fields written (item.Far hart number offset) =
    codes "far" ∷ decimal hart ∷ decimal number ∷ [] ∷ [] ∷ offset_text offset ∷ [] ∷ [] ∷ [] ∷ [] ∷ []
item_fields written (item.Run offset count) =
    codes "bytes" ∷ [] ∷ [] ∷ [] ∷ decimal count ∷ offset_text offset ∷ [] ∷ [] ∷ [] ∷ [] ∷ []
item_fields written (item.Strangers count) =
    codes "strangers" ∷ [] ∷ [] ∷ [] ∷ decimal count ∷ [] ∷ [] ∷ [] ∷ [] ∷ [] ∷ []
item_fields written (item.All what count harts messages) =
    codes "all" ∷ [] ∷ [] ∷ [] ∷ decimal count ∷ [] ∷ [] ∷ [] ∷ [] ∷ total_text what ∷ []

-- The field of why a message is bad. A reason that has a comma is between quotes.
abbrev pub reason_field : Reason → List ℕ
reason_field (reason.Closing next) = codes "\"" ++ (reason_text (reason.Closing next) ++ codes "\"")
reason_field (reason.Packet why) = reason_text (reason.Packet why)
reason_field (reason.Decode why) = reason_text (reason.Decode why)

-- An item in a layout: its row in a table, and else its line.
abbrev pub item_text : Layout → Item → List ℕ
item_text layout.Table one = fields_line (item_fields reason_field one)
item_text layout.Text one = item_line one
item_text layout.Summary one = item_line one

-- The same, if there is one.
abbrev pub text_if : Layout → Option Item → List ℕ
text_if laid None = []
text_if laid (Some one) = item_text laid one

-- The item of a part of this hart's log. The offsets are those of the hart's messages, by their places.
abbrev pub item_of : ℕ → List ℕ → LeftPart → Item
item_of hart offsets (Missing count) = item.Messages hart counted.Gap count
item_of hart offsets (Events first last events) = item.Stretch hart first last (length events)
item_of hart offsets (BadNumber number place why) = item.Bad hart number (offset_at offsets place) why
item_of hart offsets (DoubtfulNumber number first second) =
    item.Doubtful hart number (offset_at offsets first) (offset_at offsets second)
item_of hart offsets (AloneNumber number place) = item.Alone hart number (offset_at offsets place)

-- That of a hart that is read in another mode than the header says: this mode of the header.
abbrev pub said_in : ℕ → Mode → Mode → Option Item
said_in hart Differential Full = Some (item.Said hart Differential)
said_in hart Full Differential = Some (item.Said hart Full)
said_in hart said own = None

-- The same, if there is a header.
abbrev pub said_of : ℕ → Option Header → Mode → Option Item
said_of hart None own = None
said_of hart (Some header) own = said_in hart header.mode own

-- That of a count of a hart's messages, and that of the count of strangers, where there are any.
abbrev pub counted_of : ℕ → Counted → ℕ → Option Item
counted_of hart what zero = None
counted_of hart what (suc count) = Some (item.Messages hart what (suc count))

abbrev pub strangers_of : ℕ → Option Item
strangers_of zero = None
strangers_of (suc count) = Some (item.Strangers (suc count))

-- Bytes that belong to no frame have an item, and a frame has none.
abbrev pub run_of : Span → Option Item
run_of (Frame offset message) = None
run_of (Bytes offset count) = Some (item.Run offset count)
