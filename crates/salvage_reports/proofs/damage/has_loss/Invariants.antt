-- All parts so far are stretches.
use Rattle.std.proofs.Common.{◌≡◌, drop}
use Rattle.std.specs.List.{list_any}
use Rattle.salvaging.specs.PartsIn.{parts_in}
use Rattle.salvage_reports.specs.Damage.{is_no_stretch}
use Rattle.salvage_reports.proofs.damage.has_loss.Given as goal

abbrev pub invariant-loop-part : goal.invariant-loop-part
invariant-loop-part l =
    list_any is_no_stretch (parts_in l.parts) ≡ list_any is_no_stretch (parts_in (drop l.part-index l.parts))
