-- What is left of a log that was worked by hand, as the definition gives it.
use Rattle.std.proofs.Common.{◌≡◌, ℕ, ◌+◌, ◌==◌, List, [], ◌∷◌, Some, None, refl, cond}
use Rattle.retire.specs.declared.event.Event.{Event}
use Rattle.retire.specs.declared.event.Event.TheVariants.{Retire}
use Rattle.rvclass.specs.Words.{Words}
use Rattle.rvclass.specs.declared.class.Class.TheVariants.{Plain}
use Rattle.payload.specs.declared.mode.Mode.TheVariants.{Differential}
use Rattle.losses.specs.Parts.{LogPart, Events, Missing, parts}

abbrev pub base : ℕ
base = 0x8000_0000

-- Three plain words of four bytes.
abbrev pub words : Words
words addr =
    cond (addr == base) (Some (Plain, 4)) (cond (addr == base + 4) (Some (Plain, 4))
    (cond (addr == base + 8) (Some (Plain, 4)) None))

abbrev pub at : ℕ → Event
at offset = Retire (base + offset) 0 3

abbrev pub all : List Event
all = at 0 ∷ at 4 ∷ at 8 ∷ []

-- Its packets at period 2 are Open, a synchronisation at the first word, an address, a synchronisation at the third
-- word, and the closing one.
abbrev left : List ℕ → List LogPart
left numbers = parts words 2 Differential all numbers

none_lost : left (0 ∷ 1 ∷ 2 ∷ 3 ∷ 4 ∷ []) ≡ Events all ∷ []
none_lost = refl

open_lost : left (1 ∷ 2 ∷ 3 ∷ 4 ∷ []) ≡ Missing 1 ∷ Events all ∷ []
open_lost = refl

first_sync_lost : left (0 ∷ 2 ∷ 3 ∷ 4 ∷ []) ≡ Missing 1 ∷ Events (at 8 ∷ []) ∷ []
first_sync_lost = refl

address_lost : left (0 ∷ 1 ∷ 3 ∷ 4 ∷ []) ≡ Events (at 0 ∷ []) ∷ Missing 1 ∷ Events (at 8 ∷ []) ∷ []
address_lost = refl

-- The address packet before it is not settled.
second_sync_lost : left (0 ∷ 1 ∷ 2 ∷ 4 ∷ []) ≡ Events (at 0 ∷ []) ∷ Missing 1 ∷ []
second_sync_lost = refl

closing_lost : left (0 ∷ 1 ∷ 2 ∷ 3 ∷ []) ≡ Events all ∷ []
closing_lost = refl

all_between_lost : left (0 ∷ 4 ∷ []) ≡ Missing 3 ∷ []
all_between_lost = refl

-- Neighbouring gaps stay apart, where the block between gives nothing.
neighbouring_gaps : left (2 ∷ 4 ∷ []) ≡ Missing 2 ∷ Missing 1 ∷ []
neighbouring_gaps = refl

all_lost : left [] ≡ []
all_lost = refl
