-- The packets of logs that were worked by hand, as the definition gives them.
use Rattle.std.proofs.Common.{◌≡◌, ℕ, ◌+◌, ◌-◌, ◌==◌, true, false, List, [], ◌∷◌, ◌++◌, Option, Some, None, refl, cond}
use Rattle.std.proofs.Common.{replicate}
use Rattle.std.specs.Prelude.{nat_lt}
use Rattle.retire.specs.declared.event.Event.{Event}
use Rattle.retire.specs.declared.event.Event.TheVariants.{Retire, Trap}
use Rattle.rvclass.specs.Words.{Word, Words}
use Rattle.rvclass.specs.declared.class.Class.{Class}
use Rattle.rvclass.specs.declared.class.Class.TheVariants.{Jump, Branch, Uninferable, TrapReturn, Plain as PlainWord}
use Rattle.rvclass.specs.declared.class.Return.TheVariants.{Mret}
use Rattle.payload.specs.declared.mode.Mode.TheVariants.{Differential, Full}
use Rattle.payload.specs.declared.packet.Packet.TheVariants.{Sync, Support, Address, Map, Trap as TrapPacket}
use Rattle.payload.specs.declared.packet.Report.TheVariants.{Plain, Updiscon, Notify}
use Rattle.payload.specs.declared.packet.Support.TheVariants.{Open, EndedRep, EndedNtr}
use Rattle.encoder.specs.Packets.{packets}
use Rattle.encoder.specs.PacketsSoFar.{packets_so_far}

abbrev base : ℕ
base = 0x8000_0000

-- Words of four bytes from the base on.
abbrev word_at : List Class → ℕ → Option Word
word_at [] offset = None
word_at (class ∷ classes) offset = cond (offset == 0) (Some (class, 4)) (word_at classes (offset - 4))

abbrev program : List Class → Words
program classes addr = cond (nat_lt addr base) None (word_at classes (addr - base))

-- A retirement so far from the base, at machine level.
abbrev at : ℕ → ℕ → Event
at offset itype = Retire (base + offset) itype 3

empty_log : packets (program []) 1024 Differential [] ≡ Support (Open Differential) ∷ Support EndedNtr ∷ []
empty_log = refl

one_event : packets (program (PlainWord ∷ [])) 1024 Differential (at 0 0 ∷ [])
    ≡ Support (Open Differential) ∷ Sync false 3 base ∷ Support EndedNtr ∷ []
one_event = refl

two_plain_words : packets (program (PlainWord ∷ PlainWord ∷ [])) 1024 Differential (at 0 0 ∷ at 4 0 ∷ [])
    ≡ Support (Open Differential) ∷ Sync false 3 base ∷ Address [] 4 Plain ∷ Support EndedRep ∷ []
two_plain_words = refl

-- The last branch is the 31st since the sync, and the log ends.
taken_branches_32 : packets (program (Branch base ∷ [])) 1024 Differential (replicate 32 (at 0 5))
    ≡ Support (Open Differential) ∷ Sync true 3 base ∷ Address (replicate 31 true) 0 Plain ∷ Support EndedRep ∷ []
taken_branches_32 = refl

taken_branches_33 : packets (program (Branch base ∷ [])) 1024 Differential (replicate 33 (at 0 5))
    ≡ Support (Open Differential) ∷ Sync true 3 base ∷ Map (replicate 31 true) ∷ Address (true ∷ []) 0 Plain
    ∷ Support EndedRep ∷ []
taken_branches_33 = refl

jump_to_itself : packets (program (Jump base ∷ [])) 1024 Differential (replicate 3 (at 0 0))
    ≡ Support (Open Differential) ∷ Sync false 3 base ∷ Address [] 0 Notify ∷ Address [] 0 Plain ∷ Support EndedRep ∷ []
jump_to_itself = refl

abbrev with_return : Words
with_return = program (PlainWord ∷ PlainWord ∷ Uninferable ∷ [])

before_the_return : packets with_return 1024 Differential (at 0 0 ∷ at 4 0 ∷ [])
    ≡ Support (Open Differential) ∷ Sync false 3 base ∷ Address [] 4 Plain ∷ Support EndedRep ∷ []
before_the_return = refl

abbrev returned : List Event
returned = at 0 0 ∷ at 4 0 ∷ at 8 6 ∷ at 4 0 ∷ []

after_the_return : packets with_return 1024 Differential returned
    ≡ Support (Open Differential) ∷ Sync false 3 base ∷ Address [] 4 Plain ∷ Support EndedNtr ∷ []
after_the_return = refl

interrupt_last : packets with_return 1024 Differential (returned ++ Trap 3 true 7 (base + 8) 0 ∷ [])
    ≡ Support (Open Differential) ∷ Sync false 3 base ∷ Address [] 4 Updiscon
    ∷ TrapPacket false 3 7 true false (base + 8) 0 ∷ Support EndedNtr ∷ []
interrupt_last = refl

abbrev far : Words
far addr = cond (addr == base) (Some (PlainWord, 4)) (cond (addr == base + 0x100) (Some (PlainWord, 4)) None)

abbrev handled : List Event
handled = at 0 0 ∷ Trap 3 false 0xb (base + 4) 0 ∷ at 0x100 0 ∷ []

exception_with_handler : packets far 1024 Differential handled
    ≡ Support (Open Differential) ∷ Sync false 3 base ∷ TrapPacket false 3 0xb false true (base + 0x100) 0
    ∷ Support EndedNtr ∷ []
exception_with_handler = refl

-- The packet of the trap is there once its handler is, and not before.
so_far_without_handler : packets_so_far far 1024 Differential (at 0 0 ∷ Trap 3 false 0xb (base + 4) 0 ∷ [])
    ≡ Support (Open Differential) ∷ Sync false 3 base ∷ []
so_far_without_handler = refl

so_far_with_handler : packets_so_far far 1024 Differential handled
    ≡ Support (Open Differential) ∷ Sync false 3 base ∷ TrapPacket false 3 0xb false true (base + 0x100) 0 ∷ []
so_far_with_handler = refl

exception_behind_return : packets (program (Uninferable ∷ [])) 1024 Differential
    (at 0 6 ∷ Trap 3 false 1 0x4000 0x8000_0000_0000_4000 ∷ [])
    ≡ Support (Open Differential) ∷ Sync false 3 base ∷ TrapPacket false 3 1 false false 0x4000 0x8000_0000_0000_4000
    ∷ Support EndedNtr ∷ []
exception_behind_return = refl

period_2 : packets (program (PlainWord ∷ PlainWord ∷ PlainWord ∷ [])) 2 Differential (at 0 0 ∷ at 4 0 ∷ at 8 0 ∷ [])
    ≡ Support (Open Differential) ∷ Sync false 3 base ∷ Address [] 4 Plain ∷ Sync false 3 (base + 8) ∷ Support EndedNtr
    ∷ []
period_2 = refl

other_privilege : packets (program (TrapReturn Mret ∷ PlainWord ∷ PlainWord ∷ [])) 1024 Differential
    (at 0 3 ∷ Retire (base + 8) 0 0 ∷ [])
    ≡ Support (Open Differential) ∷ Sync false 3 base ∷ Sync false 0 (base + 8) ∷ Support EndedNtr ∷ []
other_privilege = refl

branch_not_taken : packets (program (PlainWord ∷ Branch (base + 12) ∷ PlainWord ∷ [])) 1024 Differential
    (at 0 0 ∷ at 4 4 ∷ at 8 0 ∷ [])
    ≡ Support (Open Differential) ∷ Sync false 3 base ∷ Address (false ∷ []) 8 Plain ∷ Support EndedRep ∷ []
branch_not_taken = refl

branch_taken : packets (program (Branch (base + 8) ∷ PlainWord ∷ PlainWord ∷ [])) 1024 Differential
    (at 0 5 ∷ at 8 0 ∷ [])
    ≡ Support (Open Differential) ∷ Sync true 3 base ∷ Address [] 8 Plain ∷ Support EndedRep ∷ []
branch_taken = refl

-- In full-address mode, the addresses themselves.
two_plain_words_in_full : packets (program (PlainWord ∷ PlainWord ∷ [])) 1024 Full (at 0 0 ∷ at 4 0 ∷ [])
    ≡ Support (Open Full) ∷ Sync false 3 base ∷ Address [] (base + 4) Plain ∷ Support EndedRep ∷ []
two_plain_words_in_full = refl

jump_to_itself_in_full : packets (program (Jump base ∷ [])) 1024 Full (replicate 3 (at 0 0))
    ≡ Support (Open Full) ∷ Sync false 3 base ∷ Address [] base Notify ∷ Address [] base Plain ∷ Support EndedRep ∷ []
jump_to_itself_in_full = refl

interrupt_last_in_full : packets with_return 1024 Full (returned ++ Trap 3 true 7 (base + 8) 0 ∷ [])
    ≡ Support (Open Full) ∷ Sync false 3 base ∷ Address [] (base + 4) Updiscon
    ∷ TrapPacket false 3 7 true false (base + 8) 0 ∷ Support EndedNtr ∷ []
interrupt_last_in_full = refl

branch_not_taken_in_full : packets (program (PlainWord ∷ Branch (base + 12) ∷ PlainWord ∷ [])) 1024 Full
    (at 0 0 ∷ at 4 4 ∷ at 8 0 ∷ [])
    ≡ Support (Open Full) ∷ Sync false 3 base ∷ Address (false ∷ []) (base + 8) Plain ∷ Support EndedRep ∷ []
branch_not_taken_in_full = refl
