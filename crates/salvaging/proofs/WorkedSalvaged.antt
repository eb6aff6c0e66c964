-- What is left of a log that was worked by hand, after damages to its messages, as the definitions give it.
use Rattle.std.proofs.Common.{◌≡◌, ◌⊎◌, inl, inr, ℕ, ◌+◌, ◌==◌, Bool, true, false, List, [], ◌∷◌, Option, Some, None}
use Rattle.std.proofs.Common.{◌≢◌, ◌≤◌, drop, take, refl, ap, cond, arith}
use Rattle.std.specs.Prelude.{Ok, Err}
use Rattle.std.proofs.lemmas.Bool.{eqb-true}
use Rattle.retire.specs.declared.event.Event.{Event}
use Rattle.rvclass.specs.Words.{Word, IsProgram}
use Rattle.rvclass.specs.declared.class.Class.TheVariants.{Plain}
use Rattle.legalpath.specs.Legal.{Legal}
use Rattle.payload.specs.Closing.{is_closing_packet, is_closing_reading}
use Rattle.payload.specs.Reading.{reading}
use Rattle.payload.specs.declared.fault.PackFault.{PackFault}
use Rattle.payload.specs.declared.mode.Mode.TheVariants.{Differential, Full}
use Rattle.payload.specs.declared.packet.Packet.{Packet}
use Rattle.payload.specs.declared.packet.Packet.TheVariants.{Sync, Support, Address}
use Rattle.payload.specs.declared.packet.Report.TheVariants.{Plain as PlainReport}
use Rattle.payload.specs.declared.packet.Support.TheVariants.{Open, EndedNtr}
use Rattle.encoder.specs.Packets.{packets}
use Rattle.decoder.specs.Describes.{Describes}
use Rattle.losses.specs.Runs.{Run, first_run, longer, run_of, trace_after, trace_of_run}
use Rattle.losses.proofs.WorkedLosses.{all, at, base, words}
use Rattle.salvaging.specs.Bad.{IsGood}
use Rattle.salvaging.specs.Entries.{Entry, Used, Doubtful, is_closed}
use Rattle.salvaging.specs.Late.{late}
use Rattle.salvaging.specs.Leaving.{EntriesLeave, UsedLeaves, mode_by, own_mode}
use Rattle.salvaging.specs.LeftParts.{LeftPart, Missing, Events, BadNumber, DoubtfulNumber}
use Rattle.salvaging.specs.declared.reason.Reason.TheVariants as reason
use Rattle.losses.proofs.BlockTraces.{block_trace, events_of_block}

-- The words of the worked losses are a program, and the log is legal.
found : (addr : ℕ) (w : Word) → words addr ≡ Some w
    → ((addr ≡ base) ⊎ ((addr ≡ base + 4) ⊎ (addr ≡ base + 8))) × (w.1 ≡ 4)
found addr w is = by_tests (addr == base) (addr == base + 4) (addr == base + 8) refl refl refl is
  where
    by_tests : (a b c : Bool) → (addr == base) ≡ a → (addr == base + 4) ≡ b → (addr == base + 8) ≡ c
        → cond a (Some (Plain, 4)) (cond b (Some (Plain, 4)) (cond c (Some (Plain, 4)) None)) ≡ Some w
        → ((addr ≡ base) ⊎ ((addr ≡ base + 4) ⊎ (addr ≡ base + 8))) × (w.1 ≡ 4)
    by_tests true b c first second third is = (inl (eqb-true addr base first), cc)
    by_tests false true c first second third is = (inr (inl (eqb-true addr (base + 4) second)), cc)
    by_tests false false true first second third is = (inr (inr (eqb-true addr (base + 8) third)), cc)
    by_tests false false false first second third is = cc

program : IsProgram words
program = record {
  even = λ addr w is. let there = found addr w is in omega (arith, there);
  long = λ addr w is. let there = found addr w is in omega (arith, there);
  below = λ addr w is. let there = found addr w is in omega (arith, there);
}

legal : Legal words all
legal =
    let machine : (3 ≤ 3) × (3 ≢ 2) = (omega arith, λ is. omega (arith, is)) in
    (((refl, tt), machine), tt, (((refl, tt), machine), (refl, refl), (((refl, tt), machine), (refl, refl), tt)))

-- At period 2 its packets are Open, a synchronisation at the first word, an address, a synchronisation at the third
-- word, and the closing one.
abbrev opens : Packet
opens = Support (Open Differential)

abbrev first_sync : Packet
first_sync = Sync false 3 base

abbrev address : Packet
address = Address [] 4 PlainReport

abbrev second_sync : Packet
second_sync = Sync false 3 (base + 8)

abbrev closes : Packet
closes = Support EndedNtr

packets_are : packets words 2 Differential all ≡ opens ∷ first_sync ∷ address ∷ second_sync ∷ closes ∷ []
packets_are = refl

-- A message is good where its packet is not the closing one, or is the last.
good : (run : Run) (payload : List ℕ) (following : Option ℕ) (packet : Packet) → reading payload ≡ Ok packet
    → (is_closing_packet packet ≡ true → following ≡ None) → (events : List Event)
    → Describes words (trace_of_run Differential (longer run (packet ∷ []))) events
    → IsGood words Differential run payload following packet
good run payload following packet read not_early events described =
    record { read = read; not_early = not_early; described = (events, described) }

not_closing : (following : Option ℕ) → false ≡ true → following ≡ None
not_closing following is = cc

-- The first packets describe the first events, and those from the second synchronisation on the last one.
from_open : (count : ℕ)
    → Describes words (trace_after 0 Differential (take count (drop 0 (packets words 2 Differential all))))
    (events_of_block words program 2 Differential all legal 0 count)
from_open count = block_trace words program 2 Differential all legal 0 0 count (λ is. refl) (λ is. refl)

from_second : (count : ℕ)
    → Describes words (trace_after 1 Differential (take count (drop 3 (packets words 2 Differential all))))
    (events_of_block words program 2 Differential all legal 3 count)
from_second count = block_trace words program 2 Differential all legal 1 3 count (λ is. cc) (λ is. cc)

module _ (p0 p1 p2 p3 p4 bad : List ℕ) (r0 : reading p0 ≡ Ok opens) (r1 : reading p1 ≡ Ok first_sync)
    (r2 : reading p2 ≡ Ok address) (r3 : reading p3 ≡ Ok second_sync) (r4 : reading p4 ≡ Ok closes)
    (why : PackFault) (unread : reading bad ≡ Err why) where
  abbrev leave : List Entry → List Bool → List LeftPart → Type 0
  leave entries goods left = EntriesLeave words Differential first_run 0 entries goods left

  abbrev last_stretch : List LeftPart
  last_stretch = Events 3 4 (at 8 ∷ []) ∷ []

  -- Number 0 opens the trace.
  opened : (entries : List Entry) (goods : List Bool) (left : List LeftPart)
      → EntriesLeave words Differential (run_of 0 (opens ∷ [])) 1 entries goods left
      → leave (Used 0 0 p0 ∷ entries) (true ∷ goods) left
  opened entries goods left later =
      ([], refl, _, refl, (opens, good _ p0 _ opens r0 (not_closing _) [] (from_open 1), later))

  -- Number 1 is the first synchronisation.
  begun : (entries : List Entry) (goods : List Bool) (left : List LeftPart)
      → EntriesLeave words Differential (run_of 0 (opens ∷ first_sync ∷ [])) 2 entries goods left
      → leave (Used 0 0 p0 ∷ Used 1 1 p1 ∷ entries) (true ∷ true ∷ goods) left
  begun entries goods left later =
      opened (Used 1 1 p1 ∷ entries) (true ∷ goods) left
      ([], refl, _, refl, (first_sync, good _ p1 _ first_sync r1 (not_closing _) (at 0 ∷ []) (from_open 2), later))

  -- Numbers 3 and 4 are the second synchronisation, before which a number is lost, and the closing packet.
  ended : (three four : ℕ) → UsedLeaves words Differential (run_of 1 []) 3 three p3 (Some 4) true
      (λ behind. EntriesLeave words Differential behind 4 (Used 4 four p4 ∷ []) (true ∷ [])) last_stretch
  ended three four = (
    second_sync,
    good _ p3 _ second_sync r3 (not_closing _) (at 8 ∷ []) (from_second 1),
    (
      [],
      refl,
      _,
      refl,
      (
        closes,
        good _ p4 _ closes r4 (λ is. refl) (at 8 ∷ []) (from_second 2),
        (at 8 ∷ [], from_second 2, refl),
      ),
    ),
  )

  -- Number 2 is lost.
  address_lost : leave (Used 0 0 p0 ∷ Used 1 1 p1 ∷ Used 3 2 p3 ∷ Used 4 3 p4 ∷ []) (true ∷ true ∷ true ∷ true ∷ [])
      (Events 0 1 (at 0 ∷ []) ∷ Missing 1 ∷ last_stretch)
  address_lost =
      begun (Used 3 2 p3 ∷ Used 4 3 p4 ∷ []) (true ∷ true ∷ []) (Events 0 1 (at 0 ∷ []) ∷ Missing 1 ∷ last_stretch) (
        Events 0 1 (at 0 ∷ []) ∷ Missing 1 ∷ [],
        (Events 0 1 (at 0 ∷ []) ∷ [], (at 0 ∷ [], from_open 2, refl), refl),
        last_stretch,
        refl,
        ended 2 3,
      )

  -- It came with two payloads.
  address_doubtful : leave (Used 0 0 p0 ∷ Used 1 1 p1 ∷ Doubtful 2 2 3 ∷ Used 3 4 p3 ∷ Used 4 5 p4 ∷ [])
      (true ∷ true ∷ false ∷ true ∷ true ∷ [])
      (Events 0 1 (at 0 ∷ []) ∷ DoubtfulNumber 2 2 3 ∷ Missing 1 ∷ last_stretch)
  address_doubtful =
      begun (Doubtful 2 2 3 ∷ Used 3 4 p3 ∷ Used 4 5 p4 ∷ []) (false ∷ true ∷ true ∷ [])
      (Events 0 1 (at 0 ∷ []) ∷ DoubtfulNumber 2 2 3 ∷ Missing 1 ∷ last_stretch) (
        refl,
        Events 0 1 (at 0 ∷ []) ∷ [],
        (at 0 ∷ [], from_open 2, refl),
        Missing 1 ∷ last_stretch,
        refl,
        (Missing 1 ∷ [], ([], ([], from_second 0, refl), refl), last_stretch, refl, ended 4 5),
      )

  -- It is a closing packet.
  closing_in_the_middle : leave (Used 0 0 p0 ∷ Used 1 1 p1 ∷ Used 2 2 p4 ∷ Used 3 3 p3 ∷ Used 4 4 p4 ∷ [])
      (true ∷ true ∷ false ∷ true ∷ true ∷ [])
      (Events 0 1 (at 0 ∷ []) ∷ BadNumber 2 2 (reason.Closing 3) ∷ last_stretch)
  closing_in_the_middle =
      begun (Used 2 2 p4 ∷ Used 3 3 p3 ∷ Used 4 4 p4 ∷ []) (false ∷ true ∷ true ∷ [])
      (Events 0 1 (at 0 ∷ []) ∷ BadNumber 2 2 (reason.Closing 3) ∷ last_stretch) (
        [],
        refl,
        _,
        refl,
        (
          reason.Closing 3,
          (ap is_closing_reading r4, refl),
          Events 0 1 (at 0 ∷ []) ∷ [],
          (at 0 ∷ [], from_open 2, refl),
          last_stretch,
          refl,
          ([], refl, _, refl, ended 3 4),
        ),
      )

  -- Neither number 1, a synchronisation, nor number 2 unpacks.
  two_unread : leave (Used 0 0 p0 ∷ Used 1 1 bad ∷ Used 2 2 bad ∷ Used 3 3 p3 ∷ Used 4 4 p4 ∷ [])
      (true ∷ false ∷ false ∷ true ∷ true ∷ []) (BadNumber 1 1 (reason.Packet why) ∷ BadNumber 2 2 (reason.Packet why) ∷ last_stretch)
  two_unread =
      opened (Used 1 1 bad ∷ Used 2 2 bad ∷ Used 3 3 p3 ∷ Used 4 4 p4 ∷ []) (false ∷ false ∷ true ∷ true ∷ [])
      (BadNumber 1 1 (reason.Packet why) ∷ BadNumber 2 2 (reason.Packet why) ∷ last_stretch) (
        [],
        refl,
        _,
        refl,
        (
          reason.Packet why,
          unread,
          [],
          ([], from_open 1, refl),
          BadNumber 2 2 (reason.Packet why) ∷ last_stretch,
          refl,
          (
            [],
            refl,
            _,
            refl,
            (
              reason.Packet why,
              unread,
              [],
              ([], from_second 0, refl),
              last_stretch,
              refl,
              ([], refl, _, refl, ended 3 4),
            ),
          ),
        ),
      )

  -- All between the first and the last is lost: the closing packet is passed over.
  all_between_lost : leave (Used 0 0 p0 ∷ Used 4 1 p4 ∷ []) (true ∷ true ∷ []) (Missing 3 ∷ [])
  all_between_lost =
      opened (Used 4 1 p4 ∷ []) (true ∷ []) (Missing 3 ∷ []) (
        Missing 3 ∷ [],
        ([], ([], from_open 1, refl), refl),
        [],
        refl,
        (closes, good _ p4 _ closes r4 (λ is. refl) [] (from_second 0), ([], from_second 0, refl)),
      )

  -- Numbers 2 and 1 were exchanged: number 1 is late, by a good message alone.
  exchanged : late (Used 0 0 p0 ∷ Used 1 2 p1 ∷ Used 2 1 p2 ∷ []) (true ∷ true ∷ true ∷ []) ≡ 1
  exchanged = refl

  exchanged_with_a_bad_one : late (Used 0 0 p0 ∷ Used 1 2 p1 ∷ Used 2 1 bad ∷ []) (true ∷ true ∷ false ∷ []) ≡ 0
  exchanged_with_a_bad_one = refl

  -- Number 0 announces the mode, where it is used and opens a trace.
  announced : own_mode Full (Used 0 0 p0 ∷ Used 1 1 p1 ∷ []) ≡ Differential
  announced = ap (mode_by 0 Full) r0

  announced_by_none : own_mode Full (Used 0 0 p1 ∷ Used 1 1 p0 ∷ []) ≡ Full
  announced_by_none = ap (mode_by 0 Full) r1

  not_announced_by_another : own_mode Full (Used 1 0 p0 ∷ []) ≡ Full
  not_announced_by_another = refl

  not_announced_by_a_doubtful_one : own_mode Full (Doubtful 0 0 1 ∷ Used 1 1 p0 ∷ []) ≡ Full
  not_announced_by_a_doubtful_one = refl

  -- The last number that is used closes the hart, or does not.
  closed : is_closed (Used 3 0 p3 ∷ Used 4 1 p4 ∷ Doubtful 5 2 3 ∷ []) ≡ true
  closed = ap is_closing_reading r4

  not_closed_in_the_middle : is_closed (Used 3 0 p4 ∷ Used 4 1 p3 ∷ []) ≡ false
  not_closed_in_the_middle = ap is_closing_reading r3
