-- The messages of the hart so far are in the table.
use Rattle.std.proofs.Common.{◌≡◌, ℕ, List, slice_get}
use Rattle.std.specs.Prelude.{◌&&◌, nat_lt}
use Rattle.auditing.specs.steps.Owning.{found, is_known_by, owner_after}
use Rattle.auditing.proofs.owners.add_hart.Given as goal

abbrev pub invariant-loop-number : goal.invariant-loop-number
invariant-loop-number g l =
    (number : ℕ) (payload : List ℕ)
    → found l.table number payload
    ≡ owner_after (nat_lt number l.number && is_known_by l.by payload (slice_get l.own.payloads number)) l.hart
    (found l.initial.table number payload)
