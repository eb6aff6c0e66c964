-- The row of a message, part by part.
use Rattle.std.proofs.Common.{◌≡◌, ◌++◌, ℕ, List, Option, Result, codes, ◌∙◌}
use Rattle.payload.specs.Reading.{reading}
use Rattle.payload.specs.declared.fault.PackFault.{PackFault}
use Rattle.payload.specs.declared.mode.Mode.{Mode}
use Rattle.payload.specs.declared.packet.Packet.{Packet}
use Rattle.message.specs.declared.message.Message.{Message}
use Rattle.listing.proofs.RowParts.{row_of_parts}
use Rattle.listing.specs.Cells.{cells, message_cells, names_end}
use Rattle.listing.specs.Packets.{packet_fields}
use Rattle.listing.specs.Rows.{begin_fields, naming_at, symbol_fields}
use Rattle.salvage_reports.specs.declared.hart_rows.TreatedInRows.{TreatedInRows}
use Rattle.output.specs.Fields.{fields_line}
use Rattle.output.specs.Quoted.{quoted_field}
use Rattle.salvage_reports.specs.Fields.{done_fields, first_place, last_place}
use Rattle.salvage_reports.specs.TreatedRows.{treated_row}

module _ (symbols : Option (List ℕ)) (mode : Mode) (at offset : ℕ) (message : Message) (one : TreatedInRows)
    (read : Result Packet PackFault) (same : read ≡ reading message.payload) (first last : Option ℕ)
    (is_first : first ≡ first_place one.treated.treatment) (is_last : last ≡ last_place one.treated.treatment) where
  abbrev pub front : List ℕ
  front = message_cells (codes "message") mode at offset message read ++ cells (done_fields quoted_field read one)

  abbrev by : Result Packet PackFault → Option ℕ → Option ℕ → List ℕ
  by read first last =
      fields_line (begin_fields (codes "message") at offset message ++
      (packet_fields mode read ++
      (done_fields quoted_field read one ++
      symbol_fields quoted_field (naming_at symbols first) (naming_at symbols last))))

  -- The row is what is before the names of places, and then these.
  pub row_is : front ++ names_end symbols first last ≡ treated_row symbols mode at offset message one
  row_is =
      row_of_parts (begin_fields (codes "message") at offset message) (packet_fields mode read)
      (done_fields quoted_field read one) (naming_at symbols first) (naming_at symbols last)
      ∙ (λ i. by (same i) (is_first i) (is_last i))
