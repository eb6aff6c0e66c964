-- A fact about definitions alone, which has a proof of its own.
use Rattle.salvage_reports.proofs.PlainRows.{are_read_back}
use Rattle.salvage_reports.proofs.laws.salvaged_rows_are_read_back.Goals as goal

pub returns : goal.returns
returns c = are_read_back
