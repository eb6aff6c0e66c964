-- Rows of measures that were worked by hand, as the definitions give them.
use Rattle.std.proofs.Common.{◌≡◌, ℕ, true, false, List, [], ◌∷◌, ◌++◌, refl, replicate}
use Rattle.std.specs.Fmt.{digits}
use Rattle.std.specs.Prelude.{codes, map}
use Rattle.retire.specs.declared.event.Event.{Event}
use Rattle.retire.specs.declared.event.Event.TheVariants.{Retire, Trap}
use Rattle.payload.specs.declared.mode.Mode.TheVariants.{Differential}
use Rattle.payload.specs.declared.packet.Packet.{Packet}
use Rattle.payload.specs.declared.packet.Packet.TheVariants.{Sync, Support, Address, Map, Trap as TrapPacket}
use Rattle.payload.specs.declared.packet.Report.TheVariants.{Plain, Updiscon, Notify}
use Rattle.payload.specs.declared.packet.Support.TheVariants.{Open, EndedRep, EndedNtr}
use Rattle.captures.specs.Measures.{measured}
use Rattle.captures.specs.Table.{bits_per_retirement, hart_rows, measure_row, total_row}
use Rattle.captures.specs.declared.measures.Measures.{Measures}

-- Payloads of these lengths.
abbrev of_lengths : List ℕ → List (List ℕ)
of_lengths lengths = map (λ n. replicate n 0) lengths

-- 32 branches taken and one not, two jumps, an interrupt, a return and a word, two exceptions, a word.
abbrev events : List Event
events =
    replicate 32 (Retire 0x8000_0000 5 3) ++ (Retire 0x8000_0000 4 3 ∷ Retire 0x8000_0004 0 3 ∷ Retire 0x8000_0004 0 3
    ∷ Trap 3 true 7 0x8000_0004 0 ∷ Retire 0x8000_0008 6 3 ∷ Retire 0x8000_000c 0 3
    ∷ Trap 3 false 2 0x8000_0010 0x3020_0073 ∷ Trap 3 false 1 0x8000_0000 0 ∷ Retire 0x8000_000c 0 3 ∷ [])

-- A packet of each kind: the trap of the handler among them, a notification, an `updiscon` and a plain address.
abbrev reports : List Packet
reports =
    Support (Open Differential) ∷ Sync true 3 0x8000_0000 ∷ Map (replicate 31 true) ∷ Address (false ∷ []) 4 Notify
    ∷ Address [] 0 Plain ∷ TrapPacket false 3 7 true true 0x8000_0008 0 ∷ Address [] 4 Updiscon
    ∷ TrapPacket false 3 2 false false 0x8000_0010 0x3020_0073 ∷ TrapPacket false 3 1 false false 0x8000_0000 0
    ∷ Sync false 3 0x8000_000c ∷ Support EndedNtr ∷ []

abbrev of_each_kind : Measures
of_each_kind = measured events reports (of_lengths (1 ∷ 5 ∷ 1 ∷ 9 ∷ 1 ∷ 6 ∷ 9 ∷ 14 ∷ 6 ∷ 5 ∷ 2 ∷ []))

row_of_each_kind : measure_row (codes "0") of_each_kind
    ≡ codes "0,41,38,3,33,11,2,2,3,3,1,1,1,59,14,12.421\n"
unfolding digits
row_of_each_kind = refl

-- A log with no event has two packets.
abbrev of_nothing : Measures
of_nothing = measured [] (Support (Open Differential) ∷ Support EndedNtr ∷ []) (of_lengths (1 ∷ 2 ∷ []))

row_of_nothing : measure_row (codes "0") of_nothing ≡ codes "0,0,0,0,0,2,2,0,0,0,0,0,0,3,2,\n"
unfolding digits
row_of_nothing = refl

-- 33 branches taken.
abbrev of_branches : Measures
of_branches =
    measured (replicate 33 (Retire 0x8000_0000 5 3))
    (Support (Open Differential) ∷ Sync true 3 0x8000_0000 ∷ Map (replicate 31 true) ∷ Address (true ∷ []) 0 Plain
    ∷ Support EndedRep ∷ [])
    (of_lengths (1 ∷ 5 ∷ 1 ∷ 1 ∷ 1 ∷ []))

rows_of_three : hart_rows 0 (of_each_kind ∷ of_nothing ∷ of_branches ∷ [])
    ++ total_row (of_each_kind ∷ of_nothing ∷ of_branches ∷ [])
    ≡ codes "0,41,38,3,33,11,2,2,3,3,1,1,1,59,14,12.421\n" ++ codes "1,0,0,0,0,2,2,0,0,0,0,0,0,3,2,\n"
    ++ codes "2,33,33,0,33,5,2,1,0,1,1,0,0,9,5,2.181\n" ++ codes "all,74,71,3,66,18,6,3,3,4,2,1,1,71,14,8.000\n"
unfolding digits
rows_of_three = refl

one_has_no_total : total_row (of_each_kind ∷ []) ≡ []
one_has_no_total = refl

none_has_no_total : total_row [] ≡ []
none_has_no_total = refl

-- 8 bits over 3, over 1,000 and over 1,001 retirements, and 16 over 3: cut off, and not rounded.
thirds : bits_per_retirement 1 3 ≡ codes "2.666"
unfolding digits
thirds = refl

hundredths : bits_per_retirement 1 1000 ≡ codes "0.008"
unfolding digits
hundredths = refl

less : bits_per_retirement 1 1001 ≡ codes "0.007"
unfolding digits
less = refl

least : bits_per_retirement 1 8001 ≡ codes "0.000"
unfolding digits
least = refl

many : bits_per_retirement 123456789 1000 ≡ codes "987654.312"
unfolding digits
many = refl

nothing_retired : bits_per_retirement 3 0 ≡ []
nothing_retired = refl
