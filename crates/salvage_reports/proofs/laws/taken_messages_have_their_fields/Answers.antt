-- A fact about definitions alone, which has a proof of its own.
use Rattle.salvage_reports.proofs.TakenFields.{taken_fields}
use Rattle.salvage_reports.proofs.laws.taken_messages_have_their_fields.Goals as goal

pub returns : goal.returns
returns c = taken_fields
