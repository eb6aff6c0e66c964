-- Where an event leads.
use Rattle.std.specs.Prelude.{ℕ, ◌+◌, ◌==◌, if◌then◌else◌, Option, Some, None}
use Rattle.retire.specs.Itype as types
use Rattle.retire.specs.declared.event.Event.{Event}
use Rattle.retire.specs.declared.event.Event.TheVariants.{Retire, Trap}
use Rattle.rvclass.specs.Words.{Word, Words}
use Rattle.rvclass.specs.declared.class.Class.{Class}
use Rattle.rvclass.specs.declared.class.Class.TheVariants.{Plain, Jump, Branch, Uninferable, TrapReturn, NotRetirable}
use Rattle.legalpath.specs.declared.next.Next.{Next}
use Rattle.legalpath.specs.declared.next.Next.TheVariants.{One, Any, NoneInside}

-- Where a retirement of a type leads from an address, by the class and the length of the instruction there; a branch
-- was taken where the type says so.
abbrev pub leads : ℕ → ℕ → Class → ℕ → Next
leads addr itype Plain length = One (addr + length)
leads addr itype (Jump to) length = One to
leads addr itype (Branch to) length = One (if itype == types.taken then to else addr + length)
leads addr itype Uninferable length = Any
leads addr itype (TrapReturn ret) length = Any
leads addr itype NotRetirable length = NoneInside

-- Where a retirement of a type leads from an address, by the instruction there, if there is one.
abbrev pub leads_from : ℕ → ℕ → Option Word → Next
leads_from addr itype None = NoneInside
leads_from addr itype (Some word) = leads addr itype word.0 word.1

-- Where an event leads; the handler of a trap may be anywhere.
abbrev pub successor : Words → Event → Next
successor words (Retire addr itype priv) = leads_from addr itype (words addr)
successor words (Trap priv interrupt cause epc tval) = Any
