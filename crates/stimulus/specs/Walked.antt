-- Which events a hart has given.
use Rattle.std.specs.Prelude.{◌≡◌, ◌≢◌, ◌≤◌, ◌%◌, All, ℕ, List, [], ◌∷◌, ◌++◌, Option, Some, None, true, length}
use Rattle.std.specs.List.{last_or}
use Rattle.retire.specs.Is64Bit.{Is64Bit}
use Rattle.retire.specs.Log.{most_long_rows}
use Rattle.retire.specs.declared.event.Event.{Event}
use Rattle.rvclass.specs.Image.{Image}
use Rattle.rvclass.specs.Fetch.{words_of}
use Rattle.rvclass.specs.Words.{Words}
use Rattle.legalpath.specs.Legal.{Legal}
use Rattle.legalpath.specs.Step.{MayHavePrivilegeAfter, MayStandAfter}
use Rattle.stimulus.specs.Walk.{extent_of, first_walk, walked}
use Rattle.stimulus.specs.declared.hart.Hart.{Hart}
use Rattle.stimulus.specs.declared.mix.Mix.{Mix}
use Rattle.stimulus.specs.declared.walk.Walk.{Walk}

-- The first events of the hart of this number, so many, where the mix and the seed are given.
abbrev pub hart_log : Image → Mix → ℕ → ℕ → ℕ → List Event
hart_log program mix seed hart count = (walked (words_of program) (first_walk (extent_of program) mix seed hart) count).0

-- A number is a privilege level: that of user, supervisor or machine mode.
abbrev pub IsLevel : ℕ → Type 0
IsLevel level = (level ≤ 3) × (level ≢ 2)

-- A walk is where its next event may be, if this event came before.
pub record MayGoOn (words : Words) (before : Option Event) (walk : Walk) : Type 0 where
  pub level : IsLevel walk.privilege
  pub may_level : MayHavePrivilegeAfter words before walk.privilege
  pub even : walk.at % 2 ≡ 0
  pub may_stand : MayStandAfter words before walk.at
  pub free : walk.is_free ≡ true → (at : ℕ) → MayStandAfter words before at
  pub base : walk.extent.base % 2 ≡ 0

-- A hart that began with this walk has given just these events, the first of the walk. They are a legal log of at most
-- 4,294,967,295 events, whose numbers have 64 bits.
pub record HasWalked (words : Words) (start : Walk) (seen : List Event) (hart : Hart) : Type 0 where
  pub walked : (seen, hart.walk) ≡ walked words start hart.given
  pub counted : length seen ≡ hart.given
  pub legal : Legal words seen
  pub goes_on : MayGoOn words (last_or None seen) hart.walk
  pub numbers : All Is64Bit seen
  pub short : length seen ≤ most_long_rows

-- After these events a hart gives one more, or none, if it has given 4,294,967,295.
abbrev pub Walks : Words → Walk → List Event → Option Event → Hart → Type 0
Walks words start seen None hart = HasWalked words start seen hart × (length seen ≡ most_long_rows)
Walks words start seen (Some event) hart = HasWalked words start (seen ++ event ∷ []) hart
