-- What is collected of messages without a fault is salvaged of them.
use Rattle.std.proofs.Common.{◌≡◌, ℕ, ◌+◌, ◌-◌, ◌<◌, ◌^◌, ◌&&◌, ◌||◌, All, Bool}
use Rattle.std.proofs.Common.{true, false, cond, List, [], ◌∷◌, map, Option, Some, None, length}
use Rattle.std.proofs.Common.{refl, sym, ap, subst, ◌∙◌, arith}
use Rattle.std.specs.Prelude.{count_by, not}
use Rattle.std.specs.List.{last_or}
use Rattle.std.proofs.lemmas.Bool.{le-ltb, lt-ltb}
use Rattle.std.proofs.lemmas.List.{get_or-replicate, length-map, length-replicate}
use Rattle.std.proofs.lemmas.List.Elements.{All-contains, All-cons, All-nil}
use Rattle.std.proofs.lemmas.List.Sums.{sum_by-cons}
use Rattle.std.proofs.lemmas.Option.{slice_get-get_or, slice_get_within}
use Rattle.rvclass.specs.Words.{Words, IsProgram}
use Rattle.payload.specs.Closing.{is_closing_packet, is_closing_reading}
use Rattle.payload.specs.ClosedTrace.{closes, last_is_closing}
use Rattle.payload.specs.Reading.{reading}
use Rattle.payload.specs.declared.mode.Mode.{Mode}
use Rattle.payload.specs.declared.packet.Packet.{Packet}
use Rattle.message.proofs.HartMessages.{packets_in-cons}
use Rattle.message.specs.Accepted.{newcomers}
use Rattle.message.specs.Accepting.{next_of}
use Rattle.message.specs.Harts.{newcomer}
use Rattle.message.specs.OfHart.{of_hart, packets_in}
use Rattle.message.specs.declared.hart.Hart.{Hart}
use Rattle.message.specs.declared.message.Message.{Message}
use Rattle.losses.specs.Apart.{AreRising}
use Rattle.losses.specs.DescribedParts.{AreDescribed, MessagesDescribe}
use Rattle.losses.specs.PartsIn.{parts_in as collected_parts}
use Rattle.losses.specs.Stops.{AreAcceptedLossy}
use Rattle.losses.specs.WholeStretches.{NumberCame}
use Rattle.losses.specs.declared.part.HartPieces.{HartPieces}
use Rattle.losses.proofs.InTurn.{AreTakenFrom, taken_rise}
use Rattle.losses.proofs.RunsOfLog.{number_of}
use Rattle.salvaging.specs.Copies.{AreCopies, HasLike}
use Rattle.salvaging.specs.Entries.{Entry, Used, Doubtful, closed_behind, is_closed}
use Rattle.salvaging.specs.Far.{believed}
use Rattle.salvaging.specs.Late.{counted, is_late, late}
use Rattle.salvaging.specs.LossyParts.{AreCollectedToo, IsCollected}
use Rattle.salvaging.specs.Salvaged.{IsSalvaged, IsSalvagedHart}
use Rattle.salvaging.specs.Strangers.{has_number, is_stranger}
use Rattle.salvaging.specs.declared.salvaged.SalvagedHart.{SalvagedHart}
use Rattle.salvaging.specs.declared.salvaged.Salvaged.{Salvaged}
use Rattle.salvaging.proofs.AllLogs.{all_pass}
use Rattle.salvaging.proofs.EntriesCollected.{HaveMessages, hart_left}
use Rattle.salvaging.proofs.FarLaws.{and_false, in_order_among}
use Rattle.salvaging.proofs.FarNone.{come_in_order, plain_hart}
use Rattle.salvaging.proofs.Members.{contains_of_in, in_of_contains}
use Rattle.salvaging.proofs.NoRepeats.{no_more, rising_no_repeat}
use Rattle.salvaging.proofs.OneHart.{message_with, number_in}
use Rattle.salvaging.proofs.SameMessages.{AreMessages, entries_are_messages, have_messages}
use Rattle.salvaging.proofs.TakenInTurn.{AreKnown, known_all, taken_from}

-- Messages that are taken have numbers that a hart may have.
taken_small : (expects : Hart) (messages : List Message) → AreTakenFrom expects messages
    → All (λ message. has_number message ≡ true) messages
taken_small expects [] taken = All-nil (λ message. has_number message ≡ true)
taken_small expects (message ∷ messages) (taken, later) =
    All-cons (λ message. has_number message ≡ true) message messages (lt-ltb message.number (2 ^ 63) taken.small)
    (taken_small (next_of message.number taken.packet) messages later)

-- No message is late where the places rise.
pub none_late_before : (place base : ℕ) (entries : List Entry) (messages : List Message) (goods : List Bool)
    → AreMessages base entries messages → place < base → is_late place entries goods ≡ false
none_late_before place base [] messages goods are below = refl
none_late_before place base (entry ∷ entries) messages [] are below = refl
none_late_before place base (Doubtful number one other ∷ entries) [] (good ∷ goods) are below = absurd are
none_late_before place base (Doubtful number one other ∷ entries) (message ∷ messages) (good ∷ goods) are below =
    absurd are
none_late_before place base (Used number at payload ∷ entries) [] (good ∷ goods) are below = absurd are
none_late_before place base (Used number at payload ∷ entries) (message ∷ messages) (true ∷ goods)
    (number_is, payload_is, at_is, are) below =
    ap (λ b. b || is_late place entries goods) (le-ltb at place (omega (arith, at_is, below)))
    ∙ none_late_before place (base + 1) entries messages goods are (omega (arith, below))
none_late_before place base (Used number at payload ∷ entries) (message ∷ messages) (false ∷ goods)
    (number_is, payload_is, at_is, are) below =
    none_late_before place (base + 1) entries messages goods are (omega (arith, below))

none_late : (base : ℕ) (entries : List Entry) (messages : List Message) (goods : List Bool)
    → AreMessages base entries messages → late entries goods ≡ 0
none_late base [] messages goods are = refl
none_late base (entry ∷ entries) messages [] are = refl
none_late base (Doubtful number one other ∷ entries) [] (good ∷ goods) are = absurd are
none_late base (Doubtful number one other ∷ entries) (message ∷ messages) (good ∷ goods) are = absurd are
none_late base (Used number at payload ∷ entries) [] (good ∷ goods) are = absurd are
none_late base (Used number at payload ∷ entries) (message ∷ messages) (good ∷ goods)
    (number_is, payload_is, at_is, are) =
    ap (λ b. counted (good && b) (late entries goods))
    (none_late_before at (base + 1) entries messages goods are (omega (arith, at_is)))
    ∙ ap (λ b. counted b (late entries goods)) (and_false good) ∙ none_late (base + 1) entries messages goods are

-- Whether a trace is closed after further packets: by the last of them, or as it was where there is none.
abbrev closed_by : Bool → List Packet → Bool
closed_by closed [] = closed
closed_by closed (packet ∷ packets) = closed_by (is_closing_packet packet) packets

-- A hart is closed by its last packet.
closes_by : (before : Option Packet) (packets : List Packet)
    → closes (last_or before packets) ≡ closed_by (closes before) packets
closes_by before [] = refl
closes_by before (packet ∷ packets) = closes_by (Some packet) packets

closed_same : (closed : Bool) (expects : Hart) (entries : List Entry) (messages : List Message)
    → HaveMessages entries messages → AreTakenFrom expects messages
    → closed_behind closed entries ≡ closed_by closed (packets_in messages)
closed_same closed expects [] [] are taken = refl
closed_same closed expects [] (message ∷ messages) are taken = absurd are
closed_same closed expects (Used number at payload ∷ entries) [] are taken = absurd are
closed_same closed expects (Doubtful number one other ∷ entries) [] are taken = absurd are
closed_same closed expects (Doubtful number one other ∷ entries) (message ∷ messages) are taken = absurd are
closed_same closed expects (Used number at payload ∷ entries) (message ∷ messages)
    (number_is, payload_is, are) (taken, later) =
    let closes_too = ap (λ l. is_closing_reading (reading l)) payload_is ∙ ap is_closing_reading taken.read in
    ap (λ b. closed_behind b entries) closes_too
    ∙ closed_same (is_closing_packet taken.packet) (next_of message.number taken.packet) entries messages are
    later
    ∙ sym (ap (closed_by closed) (packets_in-cons message messages taken.packet taken.read))

-- No message is a copy where no number comes twice.
none_copied : (messages : List Message) (count : ℕ) → AreRising 0 (map number_of messages) → AreCopies messages count
    → count ≡ 0
none_copied messages count rising copies =
    let distinct = copies.distinct in
    let enough = no_more (map number_of messages) (map number_of distinct)
    (rising_no_repeat 0 (map number_of messages) rising) (λ number there.
    let found = message_with messages number there in
    let like = All-contains (HasLike distinct) messages found.0 copies.are_distinct.all
    (contains_of_in messages found.0 found.1) in
    subst (λ n. NumberCame n (map number_of distinct)) (sym (found.2 ∙ like.2.0))
    (number_in distinct like.0 (in_of_contains distinct like.0 like.1))) in
    let others = copies.others in
    let many = length-map messages number_of in
    let few = length-map distinct number_of in
    omega (arith, enough, others, many, few)

-- No message is a stranger.
none_strange : (count : ℕ) (messages : List Message) → AreKnown count messages
    → count_by (is_stranger count) messages ≡ 0
none_strange count [] known = refl
none_strange count (message ∷ messages) (here, known) =
    let hart = lt-ltb message.hart count here.0 in
    let number = lt-ltb message.number (2 ^ 63) here.1 in
    let test : is_stranger count message ≡ false =
    ap (λ b. not (b && has_number message)) hart ∙ ap not number in
    let first : cond (is_stranger count message) 1 0 ≡ 0 = ap {B = ℕ} (λ b. cond b 1 0) test in
    let later = none_strange count messages known in
    let both = sum_by-cons (λ x. cond (is_stranger count x) 1 0) message messages in
    omega (arith, first, later, both)

module _ (words : Words) (program : IsProgram words) (mode : Mode) where
  pub hart_collected : {A B : Type 0} (messages : List Message) → AreTakenFrom newcomer messages
      → (pieces : HartPieces A) → MessagesDescribe words mode messages (collected_parts pieces.parts.items)
      → pieces.closed ≡ last_is_closing (packets_in messages) → (one : SalvagedHart B)
      → IsSalvagedHart words mode messages one → IsCollected pieces one
  hart_collected messages taken pieces described closed one salvaged =
      let rising = taken_rise newcomer messages taken in
      let entries = salvaged.entries in
      let are = entries_are_messages messages rising entries salvaged.are_entries in
      let have = have_messages 0 entries messages are in
      let left = hart_left words program mode messages messages one salvaged have taken
      (collected_parts pieces.parts.items) described in
      let reported = plain_hart words mode messages one salvaged
      (in_order_among messages entries salvaged.are_entries (come_in_order messages rising) salvaged.flags
      salvaged.are_far)
      in
      record {
        parts = left.1;
        closed = salvaged.closed ∙ ap is_closed left.0 ∙ closed_same false newcomer entries messages have taken
            ∙ sym (closes_by None (packets_in messages)) ∙ sym closed;
        copies = none_copied messages one.copies rising salvaged.copies;
        late = salvaged.late ∙ none_late 0 entries messages (believed salvaged.goods salvaged.flags) are;
        gaps = reported.0;
        far = reported.1;
      }

  pub all_collected : {A B : Type 0} (harts : ℕ) (messages : List Message) (pieces : List (HartPieces A))
      (salvaged : Salvaged B) → AreAcceptedLossy (newcomers harts) messages → AreDescribed words mode messages pieces
      → IsSalvaged words mode harts messages salvaged → AreCollectedToo pieces salvaged
  all_collected harts messages pieces salvaged accepted described is =
      let many : length (newcomers harts) ≡ harts = length-replicate harts newcomer in
      record {
        each = λ hart collected own at_pieces at_own.
            let count = is.count in
            let within = slice_get_within salvaged.harts.items hart own at_own in
            let at_hart = slice_get-get_or (newcomers harts) hart newcomer (omega (arith, within, count, many))
            ∙ ap Some (get_or-replicate harts hart newcomer newcomer (omega (arith, within, count))) in
            let taken = taken_from messages (newcomers harts) accepted hart newcomer at_hart in
            let all = all_pass has_number (of_hart hart messages)
            (taken_small newcomer (of_hart hart messages) taken) in
            hart_collected (of_hart hart messages) taken collected (described.parts hart collected at_pieces)
            (described.closed hart collected at_pieces) own
            (subst (λ ms. IsSalvagedHart words mode ms own) all (is.each hart own at_own));
        strangers = is.strangers ∙ none_strange harts messages
            (subst (λ n. AreKnown n messages) many (known_all messages (newcomers harts) accepted));
      }
