-- The rows of a damaged capture, with what salvaging does with each message.
use Rattle.std.specs.Prelude.{ℕ, ◌++◌, List, [], ◌∷◌, Option, codes, drop, take}
use Rattle.std.specs.Fmt.{decimal}
use Rattle.payload.specs.Reading.{reading}
use Rattle.payload.specs.declared.mode.Mode.{Mode}
use Rattle.message.specs.declared.message.Message.{Message}
use Rattle.captures.specs.Offsets.{offset_text}
use Rattle.listing.specs.Packets.{packet_fields}
use Rattle.listing.specs.Rows.{begin_fields, naming_at, symbol_fields}
use Rattle.listing.specs.Rows as listed
use Rattle.output.specs.Fields.{fields_line}
use Rattle.output.specs.Quoted.{quoted_field}
use Rattle.salvage_reports.specs.Fields.{done_fields, first_place, last_place}
use Rattle.salvage_reports.specs.declared.hart_rows.TreatedInRows.{TreatedInRows}

-- The names of the columns: those of a listing, and `far` before `late`.
abbrev pub columns : List (List ℕ)
columns = take 24 listed.columns ++ codes "far" ∷ drop 24 listed.columns

-- The fields of a message with which this is done, at this place among the messages and at this offset: those of its packet
-- as in a listing, what is done with it, and the names of the places of its events. Names and reasons are written in this
-- way.
abbrev pub treated_fields : (List ℕ → List ℕ) → Option (List ℕ) → Mode → ℕ → ℕ → Message → TreatedInRows → List (List ℕ)
treated_fields written symbols mode at offset message one =
    begin_fields (codes "message") at offset message ++
    (packet_fields mode (reading message.payload) ++
    (done_fields written (reading message.payload) one ++
    symbol_fields written (naming_at symbols (first_place one.treated.treatment))
    (naming_at symbols (last_place one.treated.treatment))))

-- Its row.
abbrev pub treated_row : Option (List ℕ) → Mode → ℕ → ℕ → Message → TreatedInRows → List ℕ
treated_row symbols mode at offset message one =
    fields_line (treated_fields quoted_field symbols mode at offset message one)

-- The fields of bytes that belong to no frame: the offset of the first, and how many there are.
abbrev pub run_fields : ℕ → ℕ → List (List ℕ)
run_fields offset count =
    codes "bytes" ∷ [] ∷ offset_text offset ∷ [] ∷ [] ∷ [] ∷ [] ∷ [] ∷ [] ∷ [] ∷ [] ∷ [] ∷ [] ∷ [] ∷ [] ∷ [] ∷ [] ∷ [] ∷ []
    ∷ [] ∷ [] ∷ [] ∷ [] ∷ [] ∷ [] ∷ [] ∷ decimal count ∷ [] ∷ [] ∷ [] ∷ [] ∷ [] ∷ [] ∷ [] ∷ [] ∷ []
    ∷ []

-- Their row.
abbrev pub run_row : ℕ → ℕ → List ℕ
run_row offset count = fields_line (run_fields offset count)
