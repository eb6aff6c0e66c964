-- How what was decoded of a hart compares with its log.
use Rattle.std.specs.Prelude.{ℕ, ◌+◌, ◌==◌, ◌&&◌, suc, Bool, true, false, if◌then◌else◌, List, [], ◌∷◌, length}
use Rattle.retire.specs.declared.event.Event.{Event}
use Rattle.retire.specs.declared.event.Event.TheVariants.{Retire, Trap}
use Rattle.bench.specs.declared.verdict.Verdict.{Verdict}
use Rattle.bench.specs.declared.verdict.Verdict.TheVariants.{Whole, Beginning, Differs}

-- The flags are the same.
abbrev pub is_same_flag : Bool → Bool → Bool
is_same_flag true other = other
is_same_flag false true = false
is_same_flag false false = true

-- The events are of one kind, and alike in each field.
abbrev pub is_alike : Event → Event → Bool
is_alike (Retire addr itype privilege) (Retire addr' itype' privilege') =
    addr == addr' && (itype == itype' && privilege == privilege')
is_alike (Trap privilege interrupt cause epc tval) (Trap privilege' interrupt' cause' epc' tval') =
    epc == epc' && (privilege == privilege'
    && (is_same_flag interrupt interrupt' && (cause == cause' && tval == tval')))
is_alike event other = false

-- How many events come before the first place where the lists differ or one of them has no event.
abbrev pub count_alike : List Event → List Event → ℕ
count_alike [] log = 0
count_alike (event ∷ decoded) [] = 0
count_alike (event ∷ decoded) (row ∷ log) = if is_alike event row then suc (count_alike decoded log) else 0

-- The complete log was decoded and the hart is closed; or else a prefix of the log, or all of it, was decoded; or else
-- what was decoded differs from the log, first in this row, counted from 1.
abbrev pub verdict : Bool → List Event → List Event → Verdict
verdict closed decoded log =
    if closed && (count_alike decoded log == length decoded && count_alike decoded log == length log) then Whole else
    if count_alike decoded log == length decoded then Beginning else
    Differs (count_alike decoded log + 1)
