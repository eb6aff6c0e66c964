-- A fact about definitions alone, which has a proof of its own.
use Rattle.listing.proofs.PlainRows.{are_rows_read_back}
use Rattle.listing.proofs.laws.rows_are_read_back.Goals as goal

pub returns : goal.returns
returns c = are_rows_read_back
