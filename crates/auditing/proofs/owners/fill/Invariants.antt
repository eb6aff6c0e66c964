-- The harts so far are in the table, and those left are still to come.
use Rattle.std.proofs.Common.{◌≡◌, ℕ, List, None, drop}
use Rattle.auditing.specs.steps.Owning.{found, owners_after}
use Rattle.auditing.proofs.owners.fill.Given as goal

abbrev pub invariant-loop-hart : goal.invariant-loop-hart
invariant-loop-hart g l =
    (number : ℕ) (payload : List ℕ)
    → owners_after l.by number payload l.hart (drop l.hart l.harts) (found l.table number payload)
    ≡ owners_after l.by number payload 0 l.harts None
