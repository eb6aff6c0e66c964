-- The only one is that so far, or one of those left.
use Rattle.std.proofs.Common.{◌≡◌, ℕ, List, ◌∷◌, Option, Some, None, drop}
use Rattle.auditing.specs.Exchanged.{the_only}
use Rattle.auditing.specs.steps.Moving.{has_in, harts_that, owner_in}
use Rattle.auditing.proofs.owners.owner.Given as goal

-- The only one of these and of those behind it.
abbrev pub only_with : Option ℕ → List ℕ → Option ℕ
only_with None harts = the_only harts
only_with (Some hart) harts = the_only (hart ∷ harts)

abbrev pub invariant-loop-hart : goal.invariant-loop-hart
invariant-loop-hart g l =
    owner_in l.by l.harts l.number l.payload
    ≡ only_with l.owner (harts_that (has_in l.by l.number l.payload) l.hart (drop l.hart l.harts))
