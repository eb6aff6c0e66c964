-- Messages of a hart that come in turn, none lost, repeated or damaged: each is taken with the events that it adds.
use Rattle.std.proofs.Common.{◌≡◌, inl, inr, ℕ, zero, suc, ◌+◌, ◌-◌, ◌<◌, ◌^◌, ◌++◌, ◌&&◌, Bool, true, false, List}
use Rattle.std.proofs.Common.{[], ◌∷◌, Option, Some, None, map, slice_get, take, refl, sym, ap, subst, ◌∙◌, arith}
use Rattle.std.specs.Prelude.{Ok, not}
use Rattle.std.proofs.lemmas.List.{append-nil, append_cancel_left}
use Rattle.std.proofs.lemmas.Option.{same_Some}
use Rattle.retire.specs.declared.event.Event.{Event}
use Rattle.rvclass.specs.Words.{Words, IsProgram}
use Rattle.payload.specs.Closing.{is_closing_packet}
use Rattle.payload.specs.ClosedTrace.{last_is_closing}
use Rattle.payload.specs.Reading.{reading}
use Rattle.payload.specs.declared.mode.Mode.{Mode}
use Rattle.payload.specs.declared.packet.Packet.{Packet}
use Rattle.decoder.proofs.UniqueLemmas.{one_log}
use Rattle.decoder.specs.Describes.{Describes}
use Rattle.message.proofs.HartMessages.{last_is_closing-next}
use Rattle.message.specs.Harts.{newcomer}
use Rattle.message.specs.declared.message.Message.{Message}
use Rattle.losses.specs.Runs.{Run, first_run, run_behind, run_of}
use Rattle.losses.proofs.RunLemmas.{describes_nothing}
use Rattle.losses.proofs.InTurn.{AreTakenFrom, taken_rise}
use Rattle.salvaging.specs.Bad.{IsGood}
use Rattle.salvaging.specs.Entries.{Entry, Used, Doubtful, next_used}
use Rattle.salvaging.specs.Far.{believed}
use Rattle.salvaging.specs.Late.{is_late}
use Rattle.salvaging.specs.Leaving.{own_mode}
use Rattle.salvaging.specs.Shares.{AllShareBeyond, EntriesShare, Share, UsedShares}
use Rattle.salvaging.specs.Shares.{Adds, Passes, Spoils, StandsAlone, Doubts}
use Rattle.salvaging.specs.Treatments.{HartTreats, IsTreated, Row, added_of, hart_rows, is_good_treatment, row_of, rows}
use Rattle.salvaging.specs.Treatments.{treatment_of}
use Rattle.salvaging.specs.declared.treatment.Treated.{Treated}
use Rattle.salvaging.specs.declared.treatment.Treatment.TheVariants as treatment
use Rattle.salvaging.proofs.CollectedToo.{none_late_before}
use Rattle.salvaging.proofs.CountedRows.{one_row}
use Rattle.salvaging.proofs.EntriesCollected.{collected_has_no_end}
use Rattle.salvaging.proofs.EntriesOfLog.{same_packet}
use Rattle.salvaging.proofs.FarLaws.{in_order_among}
use Rattle.salvaging.proofs.FarNone.{come_in_order}
use Rattle.salvaging.proofs.MarkedPlaces.{before_it}
use Rattle.salvaging.proofs.Members.{IsIn, in_of_contains, no_item}
use Rattle.salvaging.proofs.OneWay.{good_not_bad}
use Rattle.salvaging.proofs.SameMessages.{AreMessages, entries_are_messages, have_messages, one_place}
use Rattle.salvaging.proofs.WholeHarts.{uncut}

-- A message of a hart comes in turn after these packets, which describe these events: its number is that of its place,
-- and its packet adds these events.
pub record IsInTurn (words : Words) (place : ℕ) (packets : List Packet) (before : List Event) (message : Message)
    (added : List Event) : Type 0 where
  pub number : message.number ≡ place
  pub small : message.number < 2 ^ 63
  pub goes : last_is_closing packets ≡ false
  pub packet : Packet
  pub read : reading message.payload ≡ Ok packet
  pub described : Describes words (packets ++ packet ∷ []) (before ++ added)

-- So do further messages, one after the other.
abbrev pub AreInTurn : Words → ℕ → List Packet → List Event → List Message → List (List Event) → Type 0
AreInTurn words place packets before [] [] = Unit {0}
AreInTurn words place packets before [] (added ∷ more) = ⊥
AreInTurn words place packets before (message ∷ messages) [] = ⊥
AreInTurn words place packets before (message ∷ messages) (added ∷ more) =
    (turn : IsInTurn words place packets before message added)
    × AreInTurn words (place + 1) (packets ++ turn.packet ∷ []) (before ++ added) messages more

-- Before its first message no packet describes no event.
pub nothing_described : (words : Words) → Describes words [] []
nothing_described words = describes_nothing words

-- A demultiplexer takes them.
in_turn_taken : (words : Words) (place : ℕ) (packets : List Packet) (before : List Event) (messages : List Message)
    (added : List (List Event)) → AreInTurn words place packets before messages added
    → AreTakenFrom (record { expected = place; closed = last_is_closing packets }) messages
in_turn_taken words place packets before [] added turns = tt
in_turn_taken words place packets before (message ∷ messages) [] turns = absurd turns
in_turn_taken words place packets before (message ∷ messages) (one ∷ added) (turn, turns) =
    let number = turn.number in
    let rest = in_turn_taken words (place + 1) (packets ++ turn.packet ∷ []) (before ++ one) messages added turns in (
      record {
        goes = turn.goes;
        least = omega (arith, number);
        small = turn.small;
        packet = turn.packet;
        read = turn.read;
      },
      subst (λ n. AreTakenFrom (record { expected = n + 1; closed = is_closing_packet turn.packet }) messages)
          (sym turn.number)
          (subst (λ b. AreTakenFrom (record { expected = place + 1; closed = b }) messages)
          (last_is_closing-next packets turn.packet) rest),
    )

-- Rows of entries that add events, in time.
rows_taken : (far : Entry → Bool) (base : ℕ) (entries : List Entry) (messages : List Message)
    (added : List (List Event)) → ((x : Entry) → IsIn x entries → far x ≡ false)
    → AreMessages base entries messages → (k : ℕ) (message : Message) (one : List Event)
    → slice_get messages k ≡ Some message → slice_get added k ≡ Some one
    → IsIn (row_of message.number (treatment.Taken (added_of one)) false false)
    (rows far entries (map treatment_of (map Adds added)))
rows_taken far base entries [] added none are k message one here adds = cc
rows_taken far base entries (first ∷ messages) [] none are k message one here adds = cc
rows_taken far base [] (first ∷ messages) (some ∷ added) none are k message one here adds = absurd are
rows_taken far base (Doubtful number at other ∷ entries) (first ∷ messages) (some ∷ added) none are k message one here
    adds =
    absurd are
rows_taken far base (Used number at payload ∷ entries) (first ∷ messages) (some ∷ added) none
    (number_is, payload_is, at_is, are) zero message one here adds =
    let same = same_Some first message here in
    let later = believed (map is_good_treatment (map treatment_of (map Adds added))) (map far entries) in
    let late = none_late_before at (base + 1) entries messages later are (omega (arith, at_is)) in
    let taken = treatment.Taken (added_of some) in
    inl (sym (ap (λ b. row_of number taken b (not b && is_late at entries later))
    (none (Used number at payload) (inl refl))
    ∙ ap (λ b. row_of number taken false b) late
    ∙ ap (λ n. row_of n taken false false) (number_is ∙ ap (λ (m : Message). m.number) same)
    ∙ ap (λ es. row_of message.number (treatment.Taken (added_of es)) false false) (same_Some some one adds)))
rows_taken far base (Used number at payload ∷ entries) (first ∷ messages) (some ∷ added) none
    (number_is, payload_is, at_is, are) (suc k) message one here adds =
    inr (rows_taken far (base + 1) entries messages added (λ x there. none x (inr there)) are k message one here adds)

module _ (words : Words) (program : IsProgram words) (mode : Mode) where
  -- The message closes the trace only where none follows it.
  none_follows : (place : ℕ) (packets : List Packet) (packet : Packet) (before : List Event) (entries : List Entry)
      (messages : List Message) (added : List (List Event)) → AreMessages place entries messages
      → AreInTurn words place (packets ++ packet ∷ []) before messages added → is_closing_packet packet ≡ true
      → next_used entries ≡ None
  none_follows place packets packet before [] [] added are turns closes = refl
  none_follows place packets packet before [] (message ∷ messages) added are turns closes = absurd are
  none_follows place packets packet before (Used number at payload ∷ entries) [] added are turns closes = absurd are
  none_follows place packets packet before (Doubtful number at other ∷ entries) [] added are turns closes = absurd are
  none_follows place packets packet before (entry ∷ entries) (message ∷ messages) [] are turns closes = absurd turns
  none_follows place packets packet before (entry ∷ entries) (message ∷ messages) (one ∷ added) are (turn, turns)
      closes =
      let never : true ≡ false = sym closes ∙ sym (last_is_closing-next packets packet) ∙ turn.goes in cc

  module _ (place : ℕ) (packets : List Packet) (before : List Event) (described : Describes words packets before)
      (message : Message) (one : List Event) (turn : IsInTurn words place packets before message one)
      (payload : List ℕ) (payload_is : payload ≡ message.payload) (following : Option ℕ)
      (last : is_closing_packet turn.packet ≡ true → following ≡ None) (shares : List Share)
      (added : List (List Event)) (Rest : Run → Type 0)
      (more : Rest (run_of 0 (packets ++ turn.packet ∷ [])) → shares ≡ map Adds added) where
    own_read : reading payload ≡ Ok turn.packet
    own_read = ap reading payload_is ∙ turn.read

    is_good : IsGood words mode (run_of 0 packets) payload following turn.packet
    is_good = record { read = own_read; not_early = last; described = (before ++ one, turn.described) }

    -- It adds its events.
    one_adds : (share : Share) → UsedShares words mode (run_of 0 packets) payload following share Rest
        → share ∷ shares ≡ map Adds (one ∷ added)
    one_adds (Spoils why) (bad, rest) =
        absurd (good_not_bad words program mode (run_of 0 packets) payload following turn.packet why is_good bad)
    one_adds (Adds events) (q, good, (some, begun, first, then), rest) =
        let same = same_packet payload q turn.packet good.read own_read in
        let begun_is = one_log words program packets begun before first described in
        let then_is = one_log words program (packets ++ turn.packet ∷ []) (before ++ events) (before ++ one)
        (subst (λ p. Describes words (packets ++ p ∷ []) (before ++ events)) same
        (subst (λ l. Describes words (packets ++ q ∷ []) (l ++ events)) begun_is then)) turn.described in
        ap (λ es. Adds es ∷ shares) (append_cancel_left before events one then_is)
        ∙ ap (λ l. Adds one ∷ l) (more (subst (λ p. Rest (run_of 0 (packets ++ p ∷ []))) same rest))
    one_adds Passes (q, good, none, rest) = absurd (no_item packets q none)
    one_adds StandsAlone does = absurd does.2
    one_adds Doubts does = absurd does.2

  -- Each entry adds the events of its message.
  all_add : (entries : List Entry) (messages : List Message) (added : List (List Event)) (place : ℕ)
      (packets : List Packet) (before : List Event) (shares : List Share) → AreMessages place entries messages
      → AreInTurn words place packets before messages added → Describes words packets before
      → EntriesShare words mode (run_of 0 packets) place entries shares → shares ≡ map Adds added
  all_add [] [] [] place packets before [] are turns described share = refl
  all_add [] [] [] place packets before (one ∷ shares) are turns described share = absurd share
  all_add [] [] (one ∷ added) place packets before shares are turns described share = absurd turns
  all_add [] (message ∷ messages) added place packets before shares are turns described share = absurd are
  all_add (Used number at payload ∷ entries) [] added place packets before shares are turns described share = absurd are
  all_add (Doubtful number at other ∷ entries) [] added place packets before shares are turns described share =
      absurd are
  all_add (Doubtful number at other ∷ entries) (message ∷ messages) added place packets before shares are turns described
      share =
      absurd are
  all_add (Used number at payload ∷ entries) (message ∷ messages) [] place packets before shares are turns described
      share =
      absurd turns
  all_add (Used number at payload ∷ entries) (message ∷ messages) (one ∷ added) place packets before [] are turns
      described share =
      absurd share
  all_add (Used number at payload ∷ entries) (message ∷ messages) (one ∷ added) place packets before (first ∷ shares)
      (number_is, payload_is, at_is, are) (turn, turns) described share =
      let here : number ≡ place = number_is ∙ turn.number in
      let none : number - place ≡ 0 = omega (arith, here) in
      one_adds place packets before described message one turn payload payload_is (next_used entries)
      (none_follows (place + 1) packets turn.packet (before ++ one) entries messages added are turns) shares added
      (λ behind. EntriesShare words mode behind (number + 1) entries shares)
      (λ rest. all_add entries messages added (place + 1) (packets ++ turn.packet ∷ []) (before ++ one) shares are turns
      turn.described
      (subst (λ n. EntriesShare words mode (run_of 0 (packets ++ turn.packet ∷ [])) (n + 1) entries shares) here rest))
      first
      (subst (λ m. UsedShares words mode (run_behind m (run_of 0 packets)) payload (next_used entries) first
      (λ behind. EntriesShare words mode behind (number + 1) entries shares)) none share)

-- Nothing is done beyond the end where there is nothing.
nothing_beyond : (words : Words) (mode : Mode) (shares : List Share) → AllShareBeyond words mode [] shares → shares ≡ []
nothing_beyond words mode [] share = refl
nothing_beyond words mode (one ∷ shares) share = absurd share

module _ (words : Words) (program : IsProgram words) (mode : Mode) (messages : List Message) (added : List (List Event))
    (turns : AreInTurn words 0 [] [] messages added) (treats : HartTreats words mode messages) where
  taken : AreTakenFrom newcomer messages
  taken = in_turn_taken words 0 [] [] messages added turns

  are : AreMessages 0 treats.entries messages
  are = entries_are_messages messages (taken_rise newcomer messages taken) treats.entries treats.are_entries

  shares_are : treats.shares ≡ map Adds added
  shares_are =
      let own = own_mode mode treats.entries in
      let whole = uncut words own treats.entries treats.upto treats.beyond treats.cut
      (collected_has_no_end words program mode own treats.entries messages newcomer taken
      (have_messages 0 treats.entries messages are)) in
      let share = treats.are_shares in
      let none = nothing_beyond words own share.after
      (subst (λ es. AllShareBeyond words own es share.after) whole.1 share.shares_beyond) in
      let first = all_add words program own treats.entries messages added 0 [] [] share.first are turns
      (describes_nothing words)
      (subst (λ es. EntriesShare words own first_run 0 es share.first) whole.0 share.shares_upto) in
      share.whole ∙ ap (λ l. share.first ++ l) none ∙ append-nil share.first ∙ first

  -- What is done with the message at a place.
  pub taken_whole : (k : ℕ) (message : Message) (one : Treated) (events : List Event) → slice_get messages k ≡ Some message
      → slice_get added k ≡ Some events → IsTreated messages (hart_rows treats) k message one
      → one ≡ record { treatment = treatment.Taken (added_of events); far = false; late = false }
  taken_whole k message one events here adds (inl ((like, contains, alike), copied)) =
      let before = before_it k messages like (in_of_contains (take k messages) like contains) in
      let below = before.1 in
      let same = one_place messages before.0 k like message (taken_rise newcomer messages taken) before.2 here
      (sym alike.0) in
      absurd (omega (arith, below, same))
  taken_whole k message one events here adds (inr (first, contains)) =
      let row : Row = record { number = message.number; treated = one } in
      let far = treats.are_far.among in
      let none = in_order_among messages treats.entries treats.are_entries
      (come_in_order messages (taken_rise newcomer messages taken)) treats.far treats.are_far in
      let all = subst (λ ss. IsIn (row_of message.number (treatment.Taken (added_of events)) false false)
      (rows far treats.entries (map treatment_of ss))) (sym shares_are)
      (rows_taken far 0 treats.entries messages added none are k message events here adds) in
      ap (λ (r : Row). r.treated) (one_row far 0 treats.entries (map treatment_of treats.shares)
      treats.are_entries.rising
      row (row_of message.number (treatment.Taken (added_of events)) false false)
      (in_of_contains (hart_rows treats) row contains) all refl)
