-- The rows of the table of a listing.
use Rattle.std.specs.Prelude.{ℕ, ◌++◌, Bool, true, false, List, [], ◌∷◌, Option, Some, None, codes, length}
use Rattle.std.specs.Fmt.{decimal}
use Rattle.retire.specs.Events.{place}
use Rattle.retire.specs.LogText.{hex}
use Rattle.retire.specs.declared.event.Event.{Event}
use Rattle.legalpath.specs.LastPlace.{last_place}
use Rattle.payload.specs.Reading.{reading}
use Rattle.payload.specs.declared.mode.Mode.{Mode}
use Rattle.message.specs.declared.message.Message.{Message}
use Rattle.symbols.specs.Nearest.{Naming, symbol_at}
use Rattle.captures.specs.Offsets.{offset_text}
use Rattle.listing.specs.Effect.{Effect}
use Rattle.output.specs.Fields.{fields_line}
use Rattle.output.specs.Quoted.{quoted_field}
use Rattle.listing.specs.Packets.{packet_columns, packet_fields}
use Rattle.listing.specs.SettledRows.{settled_fields}

-- The names of the columns.
abbrev pub columns : List (List ℕ)
columns =
    codes "kind" ∷ codes "place" ∷ codes "offset" ∷ codes "hart" ∷ codes "number" ∷ (packet_columns ++
    (codes "waits" ∷ codes "closed" ∷ codes "treatment" ∷ codes "reason" ∷ codes "late" ∷ codes "bytes"
    ∷ codes "added" ∷ codes "first_row" ∷ codes "last_row" ∷ codes "first" ∷ codes "last" ∷ codes "first_symbol"
    ∷ codes "first_distance" ∷ codes "last_symbol" ∷ codes "last_distance" ∷ []))

-- The fields with which the row of a message of this kind begins: its place among the messages, its offset, its hart, and
-- its number.
abbrev pub begin_fields : List ℕ → ℕ → ℕ → Message → List (List ℕ)
begin_fields kind at offset message =
    kind ∷ decimal at ∷ offset_text offset ∷ decimal message.hart ∷ decimal message.number ∷ []

-- The place of the first of some events, and that of the last, where there is one.
abbrev pub first_of : List Event → Option ℕ
first_of [] = None
first_of (event ∷ more) = Some (place event)

abbrev pub last_of : List Event → Option ℕ
last_of [] = None
last_of (event ∷ more) = Some (last_place (place event) more)

-- A place in hexadecimal, where there is one.
abbrev pub place_field : Option ℕ → List ℕ
place_field None = []
place_field (Some at) = hex at

-- What a place is named, where there is one and it has a name.
abbrev pub naming_at : Option (List ℕ) → Option ℕ → Option Naming
naming_at None at = None
naming_at (Some file) None = None
naming_at (Some file) (Some at) = symbol_at file at

-- The name, and how far the place is above the symbol's address, in hexadecimal.
abbrev pub name_field : Option Naming → List ℕ
name_field None = []
name_field (Some naming) = naming.name

abbrev pub distance_field : Option Naming → List ℕ
distance_field None = []
distance_field (Some naming) = hex naming.distance

-- Whether this is so.
abbrev pub flag_field : Bool → List ℕ
flag_field true = codes "yes"
flag_field false = codes "no"

-- The fields of an effect before the names: whether the packet waits for the one that follows it, whether it closes its
-- hart, how many events are added, which rows they are, and the places of the first and of the last of them.
abbrev pub effect_fields : Effect → List (List ℕ)
effect_fields effect =
    flag_field effect.waits ∷ flag_field effect.closes ∷ [] ∷ [] ∷ [] ∷ [] ∷ decimal (length effect.added)
    ∷ (settled_fields effect.rows (length effect.added)
    ++ (place_field (first_of effect.added) ∷ place_field (last_of effect.added) ∷ []))

-- The fields of the names of two places. A name may have any bytes, and is written in this way.
abbrev pub symbol_fields : (List ℕ → List ℕ) → Option Naming → Option Naming → List (List ℕ)
symbol_fields written first last =
    written (name_field first) ∷ distance_field first ∷ written (name_field last) ∷ distance_field last ∷ []

-- The fields of a message with this effect, and names written in this way.
abbrev pub row_fields : (List ℕ → List ℕ) → Option (List ℕ) → Mode → ℕ → ℕ → Message → Effect → List (List ℕ)
row_fields written symbols mode at offset message effect =
    begin_fields (codes "message") at offset message ++
    (packet_fields mode (reading message.payload) ++
    (effect_fields effect ++
    symbol_fields written (naming_at symbols (first_of effect.added)) (naming_at symbols (last_of effect.added))))

-- Its row.
abbrev pub effect_row : Option (List ℕ) → Mode → ℕ → ℕ → Message → Effect → List ℕ
effect_row symbols mode at offset message effect =
    fields_line (row_fields quoted_field symbols mode at offset message effect)

-- The fields after those of a packet, where none of them applies.
abbrev pub no_effect : List (List ℕ)
no_effect = [] ∷ [] ∷ [] ∷ [] ∷ [] ∷ [] ∷ [] ∷ [] ∷ [] ∷ [] ∷ [] ∷ [] ∷ [] ∷ [] ∷ [] ∷ []

-- The fields of a message that is refused, and its row.
abbrev pub refused_fields : Mode → ℕ → ℕ → Message → List (List ℕ)
refused_fields mode at offset message =
    begin_fields (codes "refused") at offset message ++ (packet_fields mode (reading message.payload) ++ no_effect)

abbrev pub refused_row : Mode → ℕ → ℕ → Message → List ℕ
refused_row mode at offset message = fields_line (refused_fields mode at offset message)

-- The fields of a place at which there is no complete message, and its row.
abbrev pub incomplete_fields : ℕ → ℕ → List (List ℕ)
incomplete_fields at offset =
    codes "incomplete" ∷ decimal at ∷ offset_text offset
    ∷ [] ∷ [] ∷ [] ∷ [] ∷ [] ∷ [] ∷ [] ∷ [] ∷ [] ∷ [] ∷ [] ∷ [] ∷ [] ∷ [] ∷ [] ∷ [] ∷ [] ∷ no_effect

abbrev pub incomplete_row : ℕ → ℕ → List ℕ
incomplete_row at offset = fields_line (incomplete_fields at offset)
