-- The law is a recursion over messages, which no search makes.
use Rattle.salvage_reports.proofs.AcceptedTaken.{accepted_taken}
use Rattle.salvage_reports.proofs.laws.accepted_messages_are_taken.Goals as goal

pub returns : goal.returns
returns c = accepted_taken
