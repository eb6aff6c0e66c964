-- The rows of the table are read back.
use Rattle.std.specs.Prelude.{ℕ, List, Option}
use Rattle.payload.specs.declared.mode.Mode.{Mode}
use Rattle.message.specs.declared.message.Message.{Message}
use Rattle.listing.specs.Effect.{Effect}
use Rattle.output.specs.ReadBack.{IsReadAs, IsReadBack}
use Rattle.listing.specs.Rows.{columns, incomplete_fields, effect_row, refused_fields, row_fields}

-- Each row that the table may have is read back by `csv`, with the names of symbols as they are in their file, whatever
-- bytes these have. So are the names of the columns.
pub record AreRowsReadBack : Type 0 where
  pub names : IsReadBack columns
  pub message : (symbols : Option (List ℕ)) (mode : Mode) (at offset : ℕ) (message : Message) (effect : Effect)
      → IsReadAs (effect_row symbols mode at offset message effect)
      (row_fields (λ name. name) symbols mode at offset message effect)
  pub refused : (mode : Mode) (at offset : ℕ) (message : Message) → IsReadBack (refused_fields mode at offset message)
  pub incomplete : (at offset : ℕ) → IsReadBack (incomplete_fields at offset)
