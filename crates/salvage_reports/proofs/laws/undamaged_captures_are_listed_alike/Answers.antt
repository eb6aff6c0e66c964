-- The law is a recursion over messages, which no search makes.
use Rattle.salvage_reports.proofs.ListedAlike.{listed_alike}
use Rattle.salvage_reports.proofs.laws.undamaged_captures_are_listed_alike.Goals as goal

pub returns : goal.returns
returns c = listed_alike
