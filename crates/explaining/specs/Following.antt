-- What may follow an event.
use Rattle.std.specs.Prelude.{ℕ, nat_lt, if◌then◌else◌, List, Option, Some, None, codes}
use Rattle.retire.specs.LogText.{hex}
use Rattle.retire.specs.declared.event.Event.{Event}
use Rattle.retire.specs.declared.event.Event.TheVariants.{Retire, Trap}
use Rattle.rvclass.specs.Words.{Word, Words}
use Rattle.rvclass.specs.declared.class.Class.TheVariants.{TrapReturn}
use Rattle.rvclass.specs.declared.class.Return.TheVariants.{Mret, Sret}
use Rattle.legalpath.specs.Successor.{successor}
use Rattle.legalpath.specs.declared.next.Next.{Next}
use Rattle.legalpath.specs.declared.next.Next.TheVariants.{One, Any, NoneInside}

-- Where an event may be, by where the event before leads.
abbrev pub next_text : Next → List ℕ
next_text (One to) = hex to
next_text Any = codes "any address"
next_text NoneInside = codes "no address"

-- Where an event may be after the event before, if there is one.
abbrev pub place_text : Words → Option Event → List ℕ
place_text words None = codes "any address"
place_text words (Some before) = next_text (successor words before)

-- The privileges that may follow a retirement of this word, if there is one, at this privilege.
abbrev pub privileges_after : Option Word → ℕ → List ℕ
privileges_after (Some (TrapReturn Mret, length)) priv = codes "0, 1 or 3"
privileges_after (Some (TrapReturn Sret, length)) priv = codes "0 or 1"
privileges_after _ priv = hex priv

-- The privileges that may follow an event. A trap is handled at 1 or 3, and not below the privilege that it was taken
-- from.
abbrev pub privileges_behind : Words → Event → List ℕ
privileges_behind words (Retire addr itype priv) = privileges_after (words addr) priv
privileges_behind words (Trap priv interrupt cause epc tval) = if nat_lt 1 priv then codes "3" else codes "1 or 3"

-- The privileges that may follow the event before, if there is one.
abbrev pub privileges_text : Words → Option Event → List ℕ
privileges_text words None = codes "0, 1 or 3"
privileges_text words (Some before) = privileges_behind words before
