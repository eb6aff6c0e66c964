-- How this crate's code checks a log, event by event: what each event allows to follow it, and how the next is tested
-- by that. The files on legal logs and on first faults say what the result for a log means.
use Rattle.std.specs.Prelude.{ℕ, ◌+◌, ◌%◌, ◌==◌, ◌&&◌, ◌||◌, nat_le, nat_lt, not, max, if◌then◌else◌, Bool, true, false}
use Rattle.std.specs.Prelude.{List, [], ◌∷◌, Option, Some, None, Result, Ok, Err}
use Rattle.isa.specs.Privilege.{is_privilege}
use Rattle.retire.specs.Itype as types
use Rattle.retire.specs.declared.event.Event.{Event}
use Rattle.retire.specs.declared.event.Event.TheVariants.{Retire, Trap}
use Rattle.rvclass.specs.Words.{Word, Words}
use Rattle.rvclass.specs.declared.class.Class.{Class}
use Rattle.rvclass.specs.declared.class.Class.TheVariants.{Plain, Jump, Branch, Uninferable, TrapReturn}
use Rattle.rvclass.specs.declared.class.Class.TheVariants.{NotRetirable as NeverRetires}
use Rattle.legalpath.specs.Allowed.{greatest_after, may_retire_at, may_stand_at}
use Rattle.legalpath.specs.Successor.{leads}
use Rattle.legalpath.specs.declared.fault.PathFault.{PathFault}
use Rattle.legalpath.specs.declared.fault.Why.{Why}
use Rattle.legalpath.specs.declared.fault.Why.TheVariants.{OffProgram, NotRetirable, WrongType, WrongNext}
use Rattle.legalpath.specs.declared.fault.Why.TheVariants.{WrongPrivilege, WrongEpc}
use Rattle.legalpath.specs.declared.judging.Left.{Left}
use Rattle.legalpath.specs.declared.next.Next.TheVariants.{Any, NoneInside}

-- A retirement of this class has this type.
abbrev pub is_type_of : Class → ℕ → Bool
is_type_of Plain itype = itype == types.other
is_type_of (Jump to) itype = itype == types.other
is_type_of (Branch to) itype = (itype == types.not_taken) || (itype == types.taken)
is_type_of Uninferable itype = itype == types.uninferable
is_type_of (TrapReturn ret) itype = itype == types.trap_return
is_type_of NeverRetires itype = false

-- The number is a privilege level, within the bounds that the event before allows.
abbrev pub was_left : Left → ℕ → Bool
was_left left priv = is_privilege priv && (nat_le left.least priv && nat_le priv left.greatest)

-- What is allowed to be the first event.
abbrev pub left_at_start : Left
left_at_start = record { next = Any; least = 0; greatest = 3 }

-- The least privilege that may follow a retirement of an instruction of this class at this privilege.
abbrev pub least_after : Class → ℕ → ℕ
least_after (TrapReturn ret) priv = 0
least_after _ priv = priv

-- What a retirement allows to follow it.
abbrev pub left_by_retirement : ℕ → ℕ → ℕ → Word → Left
left_by_retirement addr itype priv word = record {
  next = leads addr itype word.0 word.1;
  least = least_after word.0 priv;
  greatest = greatest_after word.0 priv;
}

-- What a trap allows to follow it.
abbrev pub left_by_trap : ℕ → Left
left_by_trap priv = record { next = Any; least = max priv 1; greatest = 3 }

-- An instruction of this class never retires.
abbrev pub is_never : Class → Bool
is_never NeverRetires = true
is_never _ = false

-- What a retirement of this instruction, if there is one, allows to follow it, or the first reason why it is illegal.
-- `left` is what the event before allows.
abbrev pub judge_retirement : Left → ℕ → ℕ → ℕ → Option Word → Result Left Why
judge_retirement left addr itype priv None = Err OffProgram
judge_retirement left addr itype priv (Some word) =
    if is_never word.0 then Err NotRetirable else
    if not (is_type_of word.0 itype) then Err WrongType else
    if not (may_stand_at left.next addr) then Err WrongNext else
    if not (may_retire_at word.0 priv && was_left left priv) then Err WrongPrivilege else
    Ok (left_by_retirement addr itype priv word)

-- What a trap allows to follow it, or the first reason why it is illegal. `left` is what the event before allows.
abbrev pub judge_trap : Left → ℕ → ℕ → Bool → ℕ → ℕ → Result Left Why
judge_trap left epc priv interrupt cause tval =
    if not (nat_lt cause 64 && (not interrupt || (tval == 0))) then Err WrongType else
    if not (was_left left priv) then Err WrongPrivilege else
    if not ((epc % 2 == 0) && may_stand_at left.next epc) then Err WrongEpc else
    Ok (left_by_trap priv)

-- What an event allows to follow it, or the first reason why it is illegal. `left` is what the event before allows.
abbrev pub judge : Words → Left → Event → Result Left Why
judge words left (Retire addr itype priv) = judge_retirement left addr itype priv (words addr)
judge words left (Trap priv interrupt cause epc tval) =
    judge_trap left epc priv interrupt cause tval

-- What a retirement of this instruction allows to follow it; nothing where there is no instruction.
abbrev pub left_on : ℕ → ℕ → ℕ → Option Word → Left
left_on addr itype priv None = record { next = NoneInside; least = priv; greatest = priv }
left_on addr itype priv (Some word) = left_by_retirement addr itype priv word

-- What an event allows to follow it, or what is allowed to be the first.
abbrev pub left_after : Words → Option Event → Left
left_after words None = left_at_start
left_after words (Some (Retire addr itype priv)) = left_on addr itype priv (words addr)
left_after words (Some (Trap priv interrupt cause epc tval)) = left_by_trap priv

-- The result for events: what the last of them allows to follow it, or their first fault.
abbrev pub Answer : Type 0
Answer = Result Left PathFault

-- The result for events whose first, at this row, was checked so; `follows` is the result for the others.
abbrev pub answer_after : ℕ → Result Left Why → (Left → Answer) → Answer
answer_after row (Err why) follows = Err (record { row = row; why = why })
answer_after row (Ok left) follows = follows left

-- The result for events, the first of them at this row. The event before left `left` to it.
abbrev pub judge_all : Words → Left → ℕ → List Event → Answer
judge_all words left row [] = Ok left
judge_all words left row (event ∷ events) =
    answer_after row (judge words left event) (λ next. judge_all words next (row + 1) events)
