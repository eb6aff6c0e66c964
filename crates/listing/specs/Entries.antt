-- What a listing writes in either form: before the messages, for each of them, and where there is none.
use Rattle.std.specs.Prelude.{ℕ, ◌++◌, List, [], ◌∷◌, Option, Some, None}
use Rattle.payload.specs.declared.mode.Mode.{Mode}
use Rattle.message.specs.declared.header.Header.{Header}
use Rattle.message.specs.declared.message.Message.{Message}
use Rattle.captures.specs.Dump.{header_line}
use Rattle.output.specs.Fields.{fields_line}
use Rattle.listing.specs.Effect.{Effect}
use Rattle.listing.specs.Lines.{effect_line, offset_line, refused_line}
use Rattle.listing.specs.Placed.{PlacedMessage}
use Rattle.listing.specs.Rows.{columns, effect_row, incomplete_row, refused_row}
use Rattle.listing.specs.declared.form.Form.{Form}
use Rattle.listing.specs.declared.form.Form.TheVariants.{Lines, Table}

-- Before the messages: the line of the header, if there is one, or the names of the columns.
abbrev pub start_text : Form → Option Header → List ℕ
start_text (Lines rows) None = []
start_text (Lines rows) (Some header) = header_line header
start_text Table header = fields_line columns

-- The entry of a message with this effect. So many messages come before it, and its first byte has this offset.
abbrev pub effect_entry : Form → Option (List ℕ) → Mode → ℕ → ℕ → Message → Effect → List ℕ
effect_entry (Lines rows) symbols mode at offset message effect = effect_line rows symbols mode offset message effect
effect_entry Table symbols mode at offset message effect = effect_row symbols mode at offset message effect

-- That of a message that is refused.
abbrev pub refused_entry : Form → Mode → ℕ → ℕ → Message → List ℕ
refused_entry (Lines rows) mode at offset message = refused_line mode offset message
refused_entry Table mode at offset message = refused_row mode at offset message

-- That of a place where there is no complete message.
abbrev pub incomplete_entry : Form → ℕ → ℕ → List ℕ
incomplete_entry (Lines rows) at offset = offset_line offset
incomplete_entry Table at offset = incomplete_row at offset

-- The entries of messages at their places, with their effects.
abbrev pub placed_entries : Form → Option (List ℕ) → Mode → List PlacedMessage → List Effect → List ℕ
placed_entries form symbols mode [] effects = []
placed_entries form symbols mode (one ∷ more) [] = []
placed_entries form symbols mode (one ∷ more) (effect ∷ effects) =
    effect_entry form symbols mode one.place one.offset one.message effect
    ++ placed_entries form symbols mode more effects
