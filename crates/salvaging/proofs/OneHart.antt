-- What is salvaged of one hart, whose messages are of a legal log.
use Rattle.std.proofs.Common.{◌≡◌, ◌⊎◌, inl, inr, ℕ, zero, suc, ◌+◌, All, true, false}
use Rattle.std.proofs.Common.{Contains}
use Rattle.std.proofs.Common.{List, [], ◌∷◌, drop, map, length, Some, slice_get, refl, sym, ap, subst, ◌∙◌, arith}
use Rattle.std.proofs.lemmas.List.{length-map}
use Rattle.std.proofs.lemmas.List.Elements.{All-contains, All-head, All-map, All-tail, All-weaker}
use Rattle.rvclass.proofs.WordsLemmas.{words_of-IsProgram}
use Rattle.rvclass.specs.Fetch.{words_of}
use Rattle.rvclass.specs.Words.{Words, IsProgram}
use Rattle.legalpath.specs.ProgramLog.{ProgramLog, IsLegalLog}
use Rattle.payload.specs.declared.mode.Mode.{Mode}
use Rattle.payload.specs.declared.packet.Packet.{Packet}
use Rattle.payload.specs.Reading.{reading}
use Rattle.encoder.specs.Packets.{packets}
use Rattle.message.specs.Harts.{newcomer}
use Rattle.message.specs.declared.message.Message.{Message}
use Rattle.losses.specs.Apart.{AreRising}
use Rattle.losses.specs.DescribedParts.{MessagesDescribe}
use Rattle.losses.specs.Losses.{BeginAtZero}
use Rattle.losses.specs.Parts.{parts}
use Rattle.losses.specs.WholeStretches.{NumberCame}
use Rattle.losses.proofs.InTurn.{AreTakenFrom}
use Rattle.losses.proofs.MessagesOfLog.{some_describe, taken_in_turn}
use Rattle.losses.proofs.RunsOfLog.{HasPacket, HavePackets, number_of}
use Rattle.losses.proofs.RisingBlocks.{not_below}
use Rattle.salvaging.specs.Copies.{AllDiffer, AreCopies, HasLike}
use Rattle.salvaging.specs.Entries.{Entry, Used, Doubtful, AreEntries, IsEntryOf, entry_number, is_closed}
use Rattle.salvaging.specs.LogsSalvaged.{AreInOrder, IsLogSalvaged, closing_number}
use Rattle.salvaging.specs.Salvaged.{IsSalvagedHart}
use Rattle.salvaging.specs.declared.salvaged.SalvagedHart.{SalvagedHart}
use Rattle.salvaging.proofs.ClosedLogs.{came_closed, closed_came}
use Rattle.salvaging.proofs.EntriesCollected.{HaveMessages, hart_left}
use Rattle.salvaging.proofs.EntriesOfLog.{AreOfPackets, HasPacketOf}
use Rattle.salvaging.proofs.Members.{IsIn, came_of_contains, contains_of_came, contains_of_in, in_of_contains}
use Rattle.salvaging.proofs.NoRepeats.{NoRepeat, no_more, rising_no_repeat}
use Rattle.salvaging.proofs.SentMessages.{IsOfLog, same_number}

-- An item at a place is one of the list.
pub in_at : {X : Type 0} (xs : List X) (k : ℕ) (x : X) → slice_get xs k ≡ Some x → IsIn x xs
in_at [] k x at = cc
in_at (y ∷ xs) zero x at = let same : x ≡ y = cc in inl same
in_at (y ∷ xs) (suc k) x at = inr (in_at xs k x at)

-- The number of a message is among the numbers.
pub number_in : (messages : List Message) (message : Message) → IsIn message messages
    → NumberCame (number_of message) (map number_of messages)
number_in [] message one = absurd one
number_in (first ∷ messages) message (inl is) = inl (ap number_of is)
number_in (first ∷ messages) message (inr one) = inr (number_in messages message one)

-- A number among the numbers is one of a message.
pub message_with : (messages : List Message) (number : ℕ) → NumberCame number (map number_of messages)
    → (message : Message) × IsIn message messages × (number ≡ number_of message)
message_with [] number came = absurd came
message_with (first ∷ messages) number (inl is) = (first, inl refl, is)
message_with (first ∷ messages) number (inr came) =
    let found = message_with messages number came in (found.0, inr found.1, found.2)

-- The messages that used entries are, in the order of their numbers.
abbrev pub messages_of : List Entry → List Message
messages_of [] = []
messages_of (Used number place payload ∷ entries) =
    record { hart = 0; number = number; payload = payload } ∷ messages_of entries
messages_of (Doubtful number one other ∷ entries) = messages_of entries

-- They have the numbers of the entries, and the packets of these numbers.
pub record AreTurns (packets : List Packet) (entries : List Entry) : Type 0 where
  pub have : HaveMessages entries (messages_of entries)
  pub have_packets : HavePackets packets (messages_of entries)
  pub numbers : map number_of (messages_of entries) ≡ map entry_number entries

turns_of : (packets : List Packet) (entries : List Entry) → AreOfPackets packets entries → AreTurns packets entries
turns_of packets [] are = record { have = tt; have_packets = tt; numbers = refl }
turns_of packets (Used number place payload ∷ entries) (has, are) =
    let later = turns_of packets entries are in
    let own : HasPacket packets (record { hart = 0; number = number; payload = payload }) =
    record { packet = has.packet; later = has.later; here = has.here; read = has.read } in
    record {
      have = (refl, refl, later.have);
      have_packets = (own, later.have_packets);
      numbers = ap (λ l. number ∷ l) later.numbers;
    }
turns_of packets (Doubtful number one other ∷ entries) are = absurd are

-- The first of rising numbers is 0 where 0 is among them.
begin_at_zero : (numbers : List ℕ) → AreRising 0 numbers → NumberCame 0 numbers → BeginAtZero numbers
begin_at_zero [] rising came = tt
begin_at_zero (number ∷ numbers) rising (inl is) = sym is
begin_at_zero (number ∷ numbers) rising (inr came) =
    let above = not_below (number + 1) numbers 0 rising.1 came in absurd (omega (arith, above))

module _ (hart period : ℕ) (handed mode : Mode) (log : ProgramLog) (legal : IsLegalLog log)
    (messages : List Message) where
  abbrev words : Words
  words = words_of log.program

  is_program : IsProgram words
  is_program = words_of-IsProgram log.program legal.image

  abbrev all : List Packet
  all = packets words period mode log.events

  abbrev came : List ℕ
  came = map number_of messages

  module _ (each : All (IsOfLog hart all) messages) where
    is_of_log : (message : Message) → IsIn message messages → IsOfLog hart all message
    is_of_log message one = All-contains (IsOfLog hart all) messages message each (contains_of_in messages message one)

    -- Messages with one number are the same.
    one_message : (one other : Message) → IsIn one messages → IsIn other messages → one.number ≡ other.number
        → one ≡ other
    one_message one other here there is =
        same_number hart all one other (is_of_log one here) (is_of_log other there) is

    -- Their entries are used, each with the packet of its number.
    has_packet : (number place : ℕ) (payload : List ℕ) → IsEntryOf messages (Used number place payload)
        → HasPacketOf all number payload
    has_packet number place payload used =
        let i = is_of_log used.message (in_at messages place used.message used.here) in
        record {
          packet = i.packet;
          later = i.later;
          here = ap (λ n. drop n all) (sym used.number_here) ∙ i.here;
          read = ap reading (sym used.payload_here) ∙ i.read;
        }

    none_doubtful : (number first second : ℕ) → ¬ IsEntryOf messages (Doubtful number first second)
    none_doubtful number first second doubtful =
        let same = one_message doubtful.one doubtful.other (in_at messages first doubtful.one doubtful.one_here)
        (in_at messages second doubtful.other doubtful.other_here)
        (doubtful.one_number ∙ sym doubtful.other_number) in
        doubtful.differ (ap (λ (m : Message). m.payload) same)

    of_packets : (entries : List Entry) → All (IsEntryOf messages) entries → AreOfPackets all entries
    of_packets [] are = tt
    of_packets (Used number place payload ∷ entries) are = (
      has_packet number place payload (All-head (IsEntryOf messages) (Used number place payload) entries are),
      of_packets entries (All-tail (IsEntryOf messages) (Used number place payload) entries are),
    )
    of_packets (Doubtful number first second ∷ entries) are =
        absurd (none_doubtful number first second
        (All-head (IsEntryOf messages) (Doubtful number first second) entries are))

    -- The number of an entry came.
    entry_came : (entry : Entry) → IsEntryOf messages entry → Contains came (entry_number entry)
    entry_came (Used number place payload) used =
        contains_of_came came number (subst (λ n. NumberCame n came) used.number_here
        (number_in messages used.message (in_at messages place used.message used.here)))
    entry_came (Doubtful number first second) doubtful = absurd (none_doubtful number first second doubtful)

    module _ (entries : List Entry) (are : AreEntries messages entries) where
      abbrev numbers : List ℕ
      numbers = map entry_number entries

      of_log : AreOfPackets all entries
      of_log = of_packets entries are.each

      in_order : AreInOrder came numbers
      in_order = record {
        rising = are.rising;
        some = All-map (Contains came) entry_number entries
            (All-weaker (IsEntryOf messages) (λ entry. Contains came (entry_number entry)) entry_came entries are.each);
        all = All-map (Contains numbers) number_of messages are.none_left_out;
      }

      -- The messages that the entries are describe the parts of the log.
      turns : AreTurns all entries
      turns = turns_of all entries of_log

      rising : AreRising 0 (map number_of (messages_of entries))
      rising = subst (AreRising 0) (sym turns.numbers) are.rising

      taken : AreTakenFrom newcomer (messages_of entries)
      taken = taken_in_turn period mode log legal (messages_of entries) newcomer turns.have_packets rising
          (λ p later is. refl)

      none_begin : (entries : List Entry) → All (IsEntryOf messages) entries → messages ≡ []
          → BeginAtZero (map entry_number entries)
      none_begin [] each none = tt
      none_begin (entry ∷ entries) each none =
          let contained = entry_came entry (All-head (IsEntryOf messages) entry entries each) in
          let came_too = came_of_contains came (entry_number entry) contained in
          absurd (subst (λ (ms : List Message). NumberCame (entry_number entry) (map number_of ms)) none came_too)

      begin : (handed ≡ mode) ⊎ (NumberCame 0 came ⊎ (messages ≡ [])) → (handed ≡ mode) ⊎ BeginAtZero numbers
      begin (inl is) = inl is
      begin (inr (inl zero_came)) =
          let contained = All-contains (Contains numbers) came 0 in_order.all (contains_of_came came 0 zero_came) in
          inr (begin_at_zero numbers are.rising (came_of_contains numbers 0 contained))
      begin (inr (inr none)) = inr (none_begin entries are.each none)

      described : (handed ≡ mode) ⊎ (NumberCame 0 came ⊎ (messages ≡ []))
          → MessagesDescribe words handed (messages_of entries) (parts words period mode log.events numbers)
      described known =
          subst (λ ns. MessagesDescribe words handed (messages_of entries) (parts words period mode log.events ns))
          turns.numbers
          (some_describe period mode log legal handed (messages_of entries) turns.have_packets rising
          (subst (λ ns. (handed ≡ mode) ⊎ BeginAtZero ns) (sym turns.numbers) (begin known)))

      -- Of the distinct messages there is one for each number.
      like_came : (distinct : List Message) (message like : Message) → IsIn message messages → IsIn like messages
          → number_of message ≡ number_of like → IsIn like distinct → HasLike distinct message
      like_came distinct message like here there is one =
          let same = one_message message like here there is in (
            like,
            contains_of_in distinct like one,
            (is, ap (λ (m : Message). m.payload) same),
          )

      differ_no_repeat : (distinct : List Message) → All (Contains messages) distinct → AllDiffer distinct
          → NoRepeat (map number_of distinct)
      differ_no_repeat [] some differ = tt
      differ_no_repeat (message ∷ distinct) some (none, differ) =
          let rest = All-tail (Contains messages) message distinct some in (
            λ again.
                let found = message_with distinct (number_of message) again in
                none (like_came distinct message found.0
                (in_of_contains messages message (All-head (Contains messages) message distinct some))
                (in_of_contains messages found.0 (All-contains (Contains messages) distinct found.0 rest
                (contains_of_in distinct found.0 found.1))) found.2 found.1),
            differ_no_repeat distinct rest differ,
          )

      copies_counted : (count : ℕ) → AreCopies messages count → count + length numbers ≡ length came
      copies_counted count copies =
          let distinct = copies.distinct in
          let is = copies.are_distinct in
          let more = no_more (map number_of distinct) numbers (differ_no_repeat distinct is.some is.differ)
          (λ number there.
          let found = message_with distinct number there in
          let one = All-contains (Contains messages) distinct found.0 is.some
          (contains_of_in distinct found.0 found.1) in
          let number_came = number_in messages found.0 (in_of_contains messages found.0 one) in
          let contained = All-contains (Contains numbers) came (number_of found.0) in_order.all
          (contains_of_came came (number_of found.0) number_came) in
          subst (λ n. NumberCame n numbers) (sym found.2) (came_of_contains numbers (number_of found.0) contained)) in
          let fewer = no_more numbers (map number_of distinct) (rising_no_repeat 0 numbers are.rising)
          (λ number there.
          let contained = All-contains (Contains came) numbers number in_order.some
          (contains_of_came numbers number there) in
          let found = message_with messages number (came_of_contains came number contained) in
          let like = All-contains (HasLike distinct) messages found.0 is.all
          (contains_of_in messages found.0 found.1) in
          subst (λ n. NumberCame n (map number_of distinct)) (sym (found.2 ∙ like.2.0))
          (number_in distinct like.0 (in_of_contains distinct like.0 like.1))) in
          let others = copies.others in
          let mapped = length-map distinct number_of in
          let came_count = length-map messages number_of in
          omega (arith, more, fewer, others, mapped, came_count)

  -- What is salvaged of the hart is that of its log.
  pub hart_of_log : {A : Type 0} → All (IsOfLog hart all) messages
      → (handed ≡ mode) ⊎ (NumberCame 0 came ⊎ (messages ≡ [])) → (one : SalvagedHart A)
      → IsSalvagedHart words handed messages one → IsLogSalvaged words period mode log.events came one
  hart_of_log each known one salvaged =
      let entries = salvaged.entries in
      let are = salvaged.are_entries in
      let order = in_order each entries are in
      let of = of_log each entries are in
      let last = closing_number words period mode log.events in
      let left = hart_left words is_program handed messages (messages_of entries) one salvaged
      (turns each entries are).have (taken each entries are)
      (parts words period mode log.events (map entry_number entries)) (described each entries are known) in
      let is_closed_as = salvaged.closed ∙ ap is_closed left.0 in
      record {
        numbers = map entry_number entries;
        in_order = order;
        parts = left.1;
        copies = copies_counted each entries are one.copies salvaged.copies;
        closed = (
          λ closed. by_came entries order (closed_came words is_program period mode log.events legal.legal false entries
              of (sym is_closed_as ∙ closed)),
          λ contained. is_closed_as ∙ came_closed words is_program period mode log.events legal.legal false 0 entries
              are.rising of (came_of_contains (map entry_number entries) last
              (All-contains (Contains (map entry_number entries)) came last order.all contained)),
        );
      }
    where
      by_came : (entries : List Entry) → AreInOrder came (map entry_number entries)
          → (false ≡ true) ⊎ NumberCame (closing_number words period mode log.events) (map entry_number entries)
          → Contains came (closing_number words period mode log.events)
      by_came entries order (inl never) = cc
      by_came entries order (inr there) =
          All-contains (Contains came) (map entry_number entries) (closing_number words period mode log.events)
          order.some (contains_of_came (map entry_number entries) (closing_number words period mode log.events) there)
