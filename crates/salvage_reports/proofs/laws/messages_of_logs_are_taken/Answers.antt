-- The law is a recursion over messages, which no search makes.
use Rattle.salvage_reports.proofs.LogsTaken.{logs_taken}
use Rattle.salvage_reports.proofs.laws.messages_of_logs_are_taken.Goals as goal

pub returns : goal.returns
returns c = logs_taken
