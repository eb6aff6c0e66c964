-- Which stop a run returns.
use Rattle.std.specs.Prelude.{ℕ, ◌≡◌, ◌&&◌, Bool, true, List, Option, Some, None, not, slice_get}
use Rattle.bench.specs.Stopping.{IsFirst, IsOpenHart, IsOpenNotRefused}
use Rattle.bench.specs.declared.outcome.HartOutcome.{HartOutcome}
use Rattle.bench.specs.declared.stop.Stop.{Stop}
use Rattle.bench.specs.declared.stop.Stop.TheVariants as stop
use Rattle.bench.specs.declared.stopping.Sought.{Sought}
use Rattle.bench.specs.declared.stopping.Sought.TheVariants as sought

-- The hart is not closed, and a payload of it was handed back.
abbrev pub IsHandedBack : {A : Type 0} → List (HartOutcome A) → List Bool → ℕ → Type 0
IsHandedBack harts handed_back hart = IsOpenHart harts hart × (slice_get handed_back hart ≡ Some true)

-- The hart is one of those that are looked for.
abbrev pub IsSought : {A : Type 0} → Sought → List (HartOutcome A) → List Bool → ℕ → Type 0
IsSought sought.HandedBack harts handed_back = IsHandedBack harts handed_back
IsSought sought.Ended harts handed_back = IsOpenNotRefused harts
IsSought sought.Open harts handed_back = IsOpenHart harts

-- It is one of them by its outcome, and by whether a payload of it was handed back.
abbrev pub is_sought : {A : Type 0} → Sought → HartOutcome A → Bool → Bool
is_sought sought.HandedBack came back = not came.closed && back
is_sought sought.Ended came back = not came.closed && not came.refused
is_sought sought.Open came back = not came.closed

-- This holds of no hart.
abbrev pub IsOfNone : (ℕ → Type 0) → Type 0
IsOfNone P = (hart : ℕ) → ¬ P hart

-- The stop names a hart that is not closed. `HandedBack` names the first whose payload was handed back. Where there is
-- no such hart, `Ended` names the first for which neither memory nor its thread was refused. Where there is none of
-- these either, `Memory` names the first. There is no stop where every hart is closed.
abbrev pub NamesFirst : {A : Type 0} → List (HartOutcome A) → List Bool → Option Stop → Type 0
NamesFirst harts handed_back (Some (stop.HandedBack hart)) = IsFirst (IsHandedBack harts handed_back) hart
NamesFirst harts handed_back (Some (stop.Ended hart)) =
    IsFirst (IsOpenNotRefused harts) hart × IsOfNone (IsHandedBack harts handed_back)
NamesFirst harts handed_back (Some (stop.Memory hart)) =
    IsFirst (IsOpenHart harts) hart × IsOfNone (IsOpenNotRefused harts) × IsOfNone (IsHandedBack harts handed_back)
NamesFirst harts handed_back None = IsOfNone (IsOpenHart harts)
