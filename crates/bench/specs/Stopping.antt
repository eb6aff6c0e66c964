-- Which hart the stop of a run names.
use Rattle.std.specs.Prelude.{ℕ, ◌≡◌, ◌<◌, All, true, false, IsFalse, IsSomeAnd, IsTrue, List, Option, Some, None}
use Rattle.std.specs.Prelude.{slice_get}
use Rattle.legalpath.specs.ProgramLog.{ProgramLog}
use Rattle.payload.specs.declared.mode.Mode.{Mode}
use Rattle.message.specs.OfHart.{of_hart}
use Rattle.message.specs.declared.message.Message.{Message}
use Rattle.bench.specs.Working.{AreNotAll}
use Rattle.bench.specs.declared.outcome.HartOutcome.{HartOutcome}
use Rattle.bench.specs.declared.stop.Stop.{Stop}
use Rattle.bench.specs.declared.stop.Stop.TheVariants as stop

-- Every hart is closed.
abbrev pub AreClosed : {A : Type 0} → List (HartOutcome A) → Type 0
AreClosed harts = All (λ came. IsTrue came.closed) harts

-- No hart is closed for which memory or its thread was refused.
abbrev pub NoRefusedIsClosed : {A : Type 0} → List (HartOutcome A) → Type 0
NoRefusedIsClosed harts = All (λ came. came.refused ≡ true → came.closed ≡ false) harts

-- There is such a hart, and it is not closed.
abbrev pub IsOpenHart : {A : Type 0} → List (HartOutcome A) → ℕ → Type 0
IsOpenHart harts hart = IsSomeAnd (slice_get harts hart) (λ came. IsFalse came.closed)

-- There is such a hart, it is not closed, and neither memory nor its thread was refused for it.
abbrev pub IsOpenNotRefused : {A : Type 0} → List (HartOutcome A) → ℕ → Type 0
IsOpenNotRefused harts hart = IsSomeAnd (slice_get harts hart) (λ came. IsFalse came.closed × IsFalse came.refused)

-- Every hart is closed, unless memory or its thread was refused for it.
abbrev pub ClosedUnlessRefused : {A : Type 0} → List (HartOutcome A) → Type 0
ClosedUnlessRefused harts = All (λ came. came.refused ≡ false → came.closed ≡ true) harts

-- This holds of the hart, and of none before it.
abbrev pub IsFirst : (ℕ → Type 0) → ℕ → Type 0
IsFirst P hart = P hart × ((before : ℕ) → before < hart → ¬ P before)

-- The stop names a hart that is not closed. `Memory` names the first of these: memory or its thread was refused for it,
-- and every hart is closed for which neither was refused. `HandedBack` names any of these. `Ended` names the first for
-- which neither memory nor its thread was refused.
abbrev pub IsStopOf : {A : Type 0} → Stop → List (HartOutcome A) → Type 0
IsStopOf (stop.Memory hart) harts =
    IsFirst (IsOpenHart harts) hart × IsSomeAnd (slice_get harts hart) (λ came. IsTrue came.refused)
    × ClosedUnlessRefused harts
IsStopOf (stop.HandedBack hart) harts = IsOpenHart harts hart
IsStopOf (stop.Ended hart) harts = IsFirst (IsOpenNotRefused harts) hart

-- There is no stop if and only if every hart is closed. Otherwise the stop names a hart that is not closed, by its
-- kind.
abbrev pub NamesOpen : {A : Type 0} → Option Stop → List (HartOutcome A) → Type 0
NamesOpen None harts = AreClosed harts
NamesOpen (Some why) harts = IsStopOf why harts

-- Fewer messages of the hart are among these than its log has payloads.
abbrev pub LacksPayloads : ℕ → Mode → List ProgramLog → List Message → ℕ → Type 0
LacksPayloads period mode logs taken hart =
    (log : ProgramLog) → slice_get logs hart ≡ Some log → AreNotAll period mode log (of_hart hart taken)

-- Where a stop is of the kind `HandedBack`, this holds of the hart that it names.
abbrev pub IfHandedBack : (ℕ → Type 0) → Option Stop → Type 0
IfHandedBack P (Some (stop.HandedBack hart)) = P hart
IfHandedBack P why = Unit {0}
