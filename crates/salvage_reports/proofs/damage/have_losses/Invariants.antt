-- Nothing of the harts so far is lost.
use Rattle.std.proofs.Common.{◌≡◌, drop}
use Rattle.std.specs.List.{list_any}
use Rattle.salvage_reports.specs.Damage.{has_loss}
use Rattle.salvage_reports.proofs.damage.have_losses.Given as goal

abbrev pub invariant-loop-own : goal.invariant-loop-own
invariant-loop-own l = list_any has_loss l.harts ≡ list_any has_loss (drop l.own-index l.harts)
