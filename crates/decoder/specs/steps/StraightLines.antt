-- Straight lines of instructions, which a walk goes along whatever it looks for, but for an address on the way.
use Rattle.std.specs.Prelude.{ℕ, zero, suc, ◌≡◌, ◌+◌, ◌<◌, ◌≤◌, ◌||◌, nat_le, nat_lt, not, Bool, true, false, List}
use Rattle.std.specs.Prelude.{Option, Some, None}
use Rattle.std.specs.List.{slice_get}
use Rattle.retire.specs.Itype as types
use Rattle.retire.specs.declared.event.Event.{Event}
use Rattle.rvclass.specs.Words.{Word, Words}
use Rattle.rvclass.specs.declared.class.Class.{Class}
use Rattle.rvclass.specs.declared.class.Class.TheVariants.{Plain, Jump, Branch, Uninferable, TrapReturn, NotRetirable}
use Rattle.decoder.specs.Walk.{End, AtBranch, AtAddress, AtTarget}
use Rattle.decoder.specs.steps.WalkSteps.{is_empty, walk_within, summary, plus}
use Rattle.decoder.specs.steps.Segments.{addr_of}
use Rattle.decoder.specs.declared.segments.CodeSegment.{CodeSegment}
use Rattle.decoder.specs.declared.skips.Skip.{Skip}
use Rattle.decoder.specs.declared.skips.StraightRun.{StraightRun}
use Rattle.decoder.specs.declared.stepping.Here.{Here}

-- Where a jump to this address leads, unless it is backward.
abbrev pub unless_back : Bool → ℕ → Option ℕ
unless_back true to = None
unless_back false to = Some to

-- Where an instruction of this class and length leads from an address, if it is plain or jumps forward.
abbrev pub straight_by : ℕ → Class → ℕ → Option ℕ
straight_by addr Plain length = Some (addr + length)
straight_by addr (Jump to) length = unless_back (nat_le to addr) to
straight_by addr (Branch to) length = None
straight_by addr Uninferable length = None
straight_by addr (TrapReturn ret) length = None
straight_by addr NotRetirable length = None

-- Where the instruction at an address leads, if there is one that is plain or jumps forward.
abbrev pub straight_on : ℕ → Option Word → Option ℕ
straight_on addr None = None
straight_on addr (Some word) = straight_by addr word.0 word.1

-- What follows where there is an address to go on from.
abbrev pub then_on : Option ℕ → (ℕ → Option ℕ) → Option ℕ
then_on None rest = None
then_on (Some next) rest = rest next

-- Where so many instructions lead, one to the other, from an address, if all of them are plain or jump forward.
abbrev pub line_to : Words → ℕ → ℕ → Option ℕ
line_to words zero from = Some from
line_to words (suc steps) from = then_on (straight_on from (words from)) (λ next. line_to words steps next)

-- A straight line of so many steps leads from the first address to the second.
abbrev pub IsLine : Words → ℕ → ℕ → ℕ → Type 0
IsLine words steps from to = line_to words steps from ≡ Some to

-- Each entry is of the halfword at a place, and tells of a straight line from there: how many steps it has, and the
-- place that it leads to.
abbrev pub AreSkips : Words → List CodeSegment → List Skip → Type 0
AreSkips words segments skips =
    (place : ℕ) (skip : Skip) → slice_get skips place ≡ Some skip
    → IsLine words skip.steps (addr_of segments place) (addr_of segments skip.to)

-- A walk to this end, with these outcomes left, does not end on the way from one address to a greater one.
abbrev pub passes : End → List Bool → ℕ → ℕ → Bool
passes AtBranch left from to = true
passes (AtAddress addr) left from to = not (is_empty left) || (nat_le addr from || nat_lt to addr)
passes (AtTarget addr) left from to = true

-- A straight line of at most so many steps goes on from this retirement to an instruction that is plain or jumps
-- forward, and a walk to this end, with these outcomes left, does not end on the way.
pub record GoesOn (words : Words) (here : Here) (left : List Bool) (end : End) (most : ℕ)
    (line : StraightRun) : Type 0 where
  pub other : here.itype ≡ types.other
  pub straight : IsLine words line.steps here.addr line.to
  pub beyond : straight_on line.to (words line.to) ≡ Some line.next
  pub clear : passes end left here.addr line.to ≡ true
  pub some : 0 < line.steps
  pub few : line.steps ≤ most

-- The walk from one retirement with these outcomes to this end has so many steps more than the walk from the other.
abbrev pub IsLonger : Words → List Bool → End → ℕ → Event → Event → Type 0
IsLonger words left end steps from to =
    (ahead : ℕ) → summary from (walk_within words (steps + ahead) from left end) ≡ plus steps
    (summary to (walk_within words ahead to left end))
