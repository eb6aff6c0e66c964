-- The harts that an audit is asked for, and what is found of their messages.
use Rattle.std.specs.Prelude.{ℕ, ◌≡◌, ◌+◌, ◌-◌, ◌&&◌, not, Bool, true, if◌then◌else◌, List, [], ◌∷◌, Option, Some, None}
use Rattle.std.specs.Prelude.{Result, Ok, Err, min}
use Rattle.std.specs.List.{count_by, range_with_len}
use Rattle.message.specs.Range.{has_below, selects}
use Rattle.message.specs.declared.range.HartRange.{HartRange}
use Rattle.message.specs.declared.message.Message.{Message}
use Rattle.auditing.specs.Findings.{Found, findings, is_plain}
use Rattle.auditing.specs.Judged.{Judged, is_fate, judged}
use Rattle.auditing.specs.declared.fate.Fate.TheVariants.{Stranger}
use Rattle.command_inputs.specs.Faults.{Path}
use Rattle.path_commands.specs.Faults.{Fault, no_hart_fault}

-- Those of these harts that are below this count: from the first of them on.
abbrev pub harts_among : HartRange → ℕ → List ℕ
harts_among harts count = range_with_len harts.first (min count (harts.last + 1) - harts.first)

-- SENT has one of these harts, where some are asked for. Where none are, they are all that it has.
abbrev pub has_asked : Option Path → HartRange → ℕ → Bool
has_asked None harts count = true
has_asked (Some only) harts count = has_below harts count

-- SENT of so many harts has one that is asked for, or the fault that it has none.
abbrev pub hart_at : Path → Option Path → HartRange → ℕ → Result (Unit {0}) Fault
hart_at path only harts count = if has_asked only harts count then Ok tt else Err (no_hart_fault path harts)

-- Whether SENT, which has so many harts, has one of those that are asked for is found.
abbrev pub HasHart : Path → Option Path → HartRange → ℕ → Result (Unit {0}) Fault → Type 0
HasHart path only harts count found = found ≡ hart_at path only harts count

-- How many messages of these harts in RECEIVED are strangers.
abbrev pub strangers_of : HartRange → List Message → List Message → ℕ
strangers_of harts sent received =
    count_by (λ (one : Judged). selects harts one.message.hart && is_fate Stranger one.fate) (judged sent received)

-- The place of the first of these messages that is of these harts, and is not in order or skips a number, if there is
-- one. The first of all is at this place.
abbrev pub first_from : HartRange → ℕ → List Found → Option ℕ
first_from harts place [] = None
first_from harts place (one ∷ more) =
    if selects harts one.message.hart && not (is_plain one.finding) then Some place else
    first_from harts (place + 1) more

-- The place of the first message of these harts in RECEIVED that is not in order or skips a number, if there is one.
-- Messages of all harts count for it.
abbrev pub first_of : HartRange → List Message → List Message → Option ℕ
first_of harts sent received = first_from harts 0 (findings sent received)
