-- What is allowed where, as tests that other crates use too.
use Rattle.std.specs.Prelude.{ℕ, ◌==◌, nat_le, Bool, true, false}
use Rattle.rvclass.specs.declared.class.Class.{Class}
use Rattle.rvclass.specs.declared.class.Class.TheVariants.{TrapReturn}
use Rattle.rvclass.specs.declared.class.Return.TheVariants.{Mret, Sret}
use Rattle.legalpath.specs.declared.next.Next.{Next}
use Rattle.legalpath.specs.declared.next.Next.TheVariants.{One, Any, NoneInside}

-- An event may be at this place, by where the event before leads.
abbrev pub may_stand_at : Next → ℕ → Bool
may_stand_at (One to) at = at == to
may_stand_at Any at = true
may_stand_at NoneInside at = false

-- An instruction of this class may retire at this privilege. Whether the number is a privilege level is another test.
abbrev pub may_retire_at : Class → ℕ → Bool
may_retire_at (TrapReturn Mret) priv = priv == 3
may_retire_at (TrapReturn Sret) priv = nat_le 1 priv
may_retire_at _ priv = true

-- The greatest privilege that may follow a retirement of an instruction of this class at this privilege.
abbrev pub greatest_after : Class → ℕ → ℕ
greatest_after (TrapReturn Mret) priv = 3
greatest_after (TrapReturn Sret) priv = 1
greatest_after _ priv = priv
