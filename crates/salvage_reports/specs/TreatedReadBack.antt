-- The rows of the table are read back.
use Rattle.std.specs.Prelude.{ℕ, List, Option}
use Rattle.payload.specs.declared.mode.Mode.{Mode}
use Rattle.message.specs.declared.message.Message.{Message}
use Rattle.output.specs.ReadBack.{IsReadAs, IsReadBack}
use Rattle.salvage_reports.specs.declared.hart_rows.TreatedInRows.{TreatedInRows}
use Rattle.salvage_reports.specs.TreatedRows.{columns, run_fields, treated_fields, treated_row}

-- Each row that the table may have is read back by `csv`: that of a message with the names of symbols as they are in their
-- file, whatever bytes these have, and with why it is bad as its text. So are the names of its columns.
pub record AreRowsReadBack : Type 0 where
  pub names : IsReadBack columns
  pub message : (symbols : Option (List ℕ)) (mode : Mode) (at offset : ℕ) (message : Message) (one : TreatedInRows)
      → IsReadAs (treated_row symbols mode at offset message one)
      (treated_fields (λ field. field) symbols mode at offset message one)
  pub bytes : (offset count : ℕ) → IsReadBack (run_fields offset count)
