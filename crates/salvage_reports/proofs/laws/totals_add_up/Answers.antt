-- A lemma says it, which no tactic finds.
use Rattle.salvage_reports.proofs.AddedUp.{totals_add_up}
use Rattle.salvage_reports.proofs.laws.totals_add_up.Goals as goal

pub returns : goal.returns
returns c = totals_add_up
