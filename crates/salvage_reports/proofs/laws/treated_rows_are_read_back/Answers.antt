-- A fact about definitions alone, which has a proof of its own.
use Rattle.salvage_reports.proofs.ReadRows.{are_rows_read_back}
use Rattle.salvage_reports.proofs.laws.treated_rows_are_read_back.Goals as goal

pub returns : goal.returns
returns c = are_rows_read_back
