-- A fact about definitions alone, which has a proof of its own.
use Rattle.output.proofs.QuotedFields.{are_read_back}
use Rattle.output.proofs.laws.quoted_rows_are_read_back.Goals as goal

pub returns : goal.returns
returns c = are_read_back
