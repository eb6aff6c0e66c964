-- A hart is closed exactly where the packet that closes its log came.
use Rattle.std.proofs.Common.{◌≡◌, ◌⊎◌, inl, inr, ℕ, zero, suc, ◌+◌, Bool, true, List, [], ◌∷◌, drop, map}
use Rattle.std.proofs.Common.{length, Option, Some, None, refl, sym, ap, subst, ◌∙◌, arith}
use Rattle.std.specs.List.{last_or}
use Rattle.retire.specs.declared.event.Event.{Event}
use Rattle.rvclass.specs.Words.{Words, IsProgram}
use Rattle.legalpath.specs.Legal.{Legal}
use Rattle.payload.specs.Closing.{is_closing, is_closing_packet, is_closing_reading}
use Rattle.payload.specs.ClosedTrace.{closes}
use Rattle.payload.specs.declared.mode.Mode.{Mode}
use Rattle.payload.specs.declared.packet.Packet.{Packet}
use Rattle.encoder.proofs.ClosingPacket.{packets_end}
use Rattle.losses.specs.Apart.{AreRising}
use Rattle.losses.specs.WholeStretches.{NumberCame}
use Rattle.losses.proofs.NextMessage.{place_within}
use Rattle.losses.proofs.TraceLemmas.{drop_one_more}
use Rattle.salvaging.specs.Entries.{Entry, Used, Doubtful, closed_behind, entry_number}
use Rattle.salvaging.specs.LogsSalvaged.{closing_number}
use Rattle.salvaging.proofs.EntriesOfLog.{AreOfPackets, HasPacketOf, closing_is_last}
use Rattle.losses.proofs.RunsOfLog.{ps}

last_at : (before : Option Packet) (count : ℕ) (packets : List Packet) (p : Packet) → drop count packets ≡ p ∷ []
    → last_or before packets ≡ Some p
last_at before zero [] p is = cc
last_at before zero (q ∷ packets) p is =
    let same : q ≡ p = cc in
    let none : packets ≡ [] = cc in
    ap (last_or (Some q)) none ∙ ap Some same
last_at before (suc count) [] p is = cc
last_at before (suc count) (q ∷ packets) p is = last_at (Some q) count packets p is

-- Behind the last item there is none.
none_behind : (count : ℕ) (packets : List Packet) (p : Packet) (later : List Packet) → drop count packets ≡ p ∷ later
    → length packets ≡ count + 1 → later ≡ []
none_behind count packets p [] here long = refl
none_behind count packets p (q ∷ later) here long =
    let within = place_within (count + 1) packets q later (drop_one_more count packets p (q ∷ later) here) in
    absurd (omega (arith, within, long))

module _ (words : Words) (program : IsProgram words) (period : ℕ) (mode : Mode) (log : List Event)
    (legal : Legal words log) where
  abbrev all : List Packet
  all = ps words program period mode log legal

  abbrev last : ℕ
  last = closing_number words period mode log

  -- Where the hart is closed, that packet came.
  pub closed_came : (closed : Bool) (entries : List Entry) → AreOfPackets all entries
      → closed_behind closed entries ≡ true → (closed ≡ true) ⊎ NumberCame last (map entry_number entries)
  closed_came closed [] are is = inl is
  closed_came closed (Used number place payload ∷ entries) (has, are) is =
      by_rest (closed_came (is_closing payload) entries are is)
    where
      by_rest : (is_closing payload ≡ true) ⊎ NumberCame last (map entry_number entries)
          → (closed ≡ true) ⊎ NumberCame last (number ∷ map entry_number entries)
      by_rest (inr later) = inr (inr later)
      by_rest (inl closes_here) =
          let closes_packet : is_closing_packet has.packet ≡ true =
          sym (ap is_closing_reading has.read) ∙ closes_here in
          let end = closing_is_last words program period mode log legal number has.packet has.later has.here
          closes_packet in
          inr (inl (omega (arith, end)))
  closed_came closed (Doubtful number one other ∷ entries) are is = absurd are

  -- The last packet of the log closes it.
  closes_at : (number : ℕ) (payload : List ℕ) → last ≡ number → HasPacketOf all number payload
      → is_closing payload ≡ true
  closes_at number payload is has =
      let within = place_within number all has.packet has.later has.here in
      let none = none_behind number all has.packet has.later has.here (omega (arith, within, is)) in
      let here = subst (λ l. drop number all ≡ has.packet ∷ l) none has.here in
      ap is_closing_reading has.read
      ∙ sym (ap closes (last_at None number all has.packet here))
      ∙ packets_end words period mode log

  -- No number that came is greater.
  none_greater : (number : ℕ) (entries : List Entry) → AreRising (number + 1) (map entry_number entries)
      → AreOfPackets all entries → last ≡ number → entries ≡ []
  none_greater number [] rising are is = refl
  none_greater number (Used next place payload ∷ entries) rising (has, are) is =
      let above = rising.0 in
      let within = place_within next all has.packet has.later has.here in
      absurd (omega (arith, is, above, within))
  none_greater number (Doubtful next one other ∷ entries) rising are is = absurd are

  -- Where that packet came, the hart is closed.
  pub came_closed : (closed : Bool) (from : ℕ) (entries : List Entry) → AreRising from (map entry_number entries)
      → AreOfPackets all entries → NumberCame last (map entry_number entries) → closed_behind closed entries ≡ true
  came_closed closed from [] rising are came = absurd came
  came_closed closed from (Used number place payload ∷ entries) rising (has, are) (inl is) =
      ap (closed_behind (is_closing payload)) (none_greater number entries rising.1 are is)
      ∙ closes_at number payload is has
  came_closed closed from (Used number place payload ∷ entries) rising (has, are) (inr came) =
      came_closed (is_closing payload) (number + 1) entries rising.1 are came
  came_closed closed from (Doubtful number one other ∷ entries) rising are came = absurd are
