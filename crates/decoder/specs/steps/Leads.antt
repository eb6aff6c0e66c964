-- Whether the privilege may stay after a retirement, as this crate's code tests it.
use Rattle.std.specs.Prelude.{ℕ, nat_le, Bool, true, Option, Some, None}
use Rattle.rvclass.specs.Words.{Word}
use Rattle.rvclass.specs.declared.class.Class.{Class}
use Rattle.legalpath.specs.Allowed.{greatest_after}

-- The privilege may stay after a retirement of this class: it is not above the greatest privilege that may follow.
abbrev pub may_stay : Class → ℕ → Bool
may_stay class priv = nat_le priv (greatest_after class priv)

-- The privilege may stay after a retirement of this instruction. Where there is no instruction it may.
abbrev pub may_stay_on : Option Word → ℕ → Bool
may_stay_on None priv = true
may_stay_on (Some word) priv = may_stay word.0 priv
