-- The rows of the table of what is salvaged are read back.
use Rattle.salvaging.specs.ReasonText.{reason_text}
use Rattle.output.specs.Fields.{fields_line}
use Rattle.output.specs.ReadBack.{IsReadAs, IsReadBack}
use Rattle.salvage_reports.specs.SalvagedItems.{columns, item_fields, reason_field}
use Rattle.salvage_reports.specs.declared.salvaged_items.Item.{Item}

-- Each row that the table may have is read back by `csv`, and so are the names of its columns. The reason of a bad number
-- is read as its text, whether it is between quotes or not.
pub record AreReadBack : Type 0 where
  pub columns : IsReadBack columns
  pub items : (item : Item) → IsReadAs (fields_line (item_fields reason_field item)) (item_fields reason_text item)
