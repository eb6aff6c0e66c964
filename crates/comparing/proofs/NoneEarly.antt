-- Decoding stops where it is said to, and at no message before.
use Rattle.std.proofs.Common.{◌≡◌, ◌∙◌, ◌≤◌, ◌<◌, ◌+◌, ◌++◌, ℕ, zero, suc, All, Bool, true, false, List, [], ◌∷◌, Option, None, Some, Ok}
use Rattle.std.proofs.Common.{ap, append-nil, append_assoc, arith, filter, get_or, length, map, refl, slice_get, subst, sym}
use Rattle.std.proofs.lemmas.Bool.{eqb-true, le-leb}
use Rattle.std.proofs.lemmas.List.{append_cancel_left, length-append, length-take}
use Rattle.std.proofs.lemmas.List.Elements.{All-cons, All-filter, All-head, All-nil, All-tail}
use Rattle.std.proofs.lemmas.Option.{same_Some, slice_get-get_or, slice_get_within}
use Rattle.std.specs.Prelude.{◌==◌}
use Rattle.captures.proofs.CapturesSplit.{capture_split}
use Rattle.captures.proofs.Elements.{All-middle}
use Rattle.captures.specs.Decoded.{AreHartsDecoded, IsDecodedOf, StopsOf}
use Rattle.captures.specs.Whole.{BeginsWith}
use Rattle.captures.specs.declared.outcome.CaptureFault.{CaptureFault}
use Rattle.decoder.proofs.ExtendingLemmas.{front_describes}
use Rattle.decoder.specs.Describes.{Describes}
use Rattle.listing.specs.Placed.{PlacedMessage, placed}
use Rattle.message.proofs.AcceptedLemmas.{answered}
use Rattle.message.proofs.Answering.{answer-unpacked}
use Rattle.message.proofs.HartMessages.{packets_in-append, packets_in-cons}
use Rattle.message.proofs.OfHartLemmas.{of_hart-append}
use Rattle.message.proofs.ReadBack.{message_only}
use Rattle.message.proofs.StartsRead.{header_only}
use Rattle.message.specs.Accepted.{AreAccepted, newcomers}
use Rattle.message.specs.Accepting.{accepting, harts_after}
use Rattle.message.specs.Capture.{capture, message_bytes}
use Rattle.message.specs.Cut.{IsMessage}
use Rattle.message.specs.Harts.{Harts}
use Rattle.message.specs.Header.{header_bytes, setting_bytes}
use Rattle.message.specs.OfHart.{of_hart, packets_in, packets_of}
use Rattle.message.specs.Range.{selected, selects}
use Rattle.message.specs.declared.header.Header.{Header}
use Rattle.message.specs.declared.message.Message.{Message}
use Rattle.message.specs.declared.range.HartRange.{HartRange}
use Rattle.payload.specs.Reading.{reading}
use Rattle.payload.specs.declared.mode.Mode.{Mode}
use Rattle.payload.specs.declared.packet.Packet.{Packet}
use Rattle.retire.specs.declared.event.Event.{Event}
use Rattle.rvclass.specs.Words.{Words}
use Rattle.comparing.specs.Compared.{gots_by, of_harts}
use Rattle.comparing.specs.Counts.{before_stop, count_of}
use Rattle.comparing.specs.Sourced.{AreNumbered, NoneStopsEarly, StopsEarly}
use Rattle.comparing.specs.Sources.{Step, first_offset, messages_in}
use Rattle.comparing.specs.declared.explained.ExplainedHart.{ExplainedHart}
use Rattle.comparing.proofs.DecodedHarts.{flags_many, gots_many}
use Rattle.comparing.proofs.SomeHarts.{hart_there, hart_within, of_same}

-- Bytes begin with the fewer of two lists of messages that they begin with both.
record Begins (all messages : List Message) : Type 0 where
  later : List Message
  whole : all ≡ messages ++ later

first_of : (all messages : List Message) (rest more : List ℕ) → All IsMessage all → All IsMessage messages
    → length messages ≤ length all → capture all ++ rest ≡ capture messages ++ more → Begins all messages
first_of all [] rest more good ranges few same = record { later = all; whole = refl }
first_of [] (message ∷ messages) rest more good ranges few same = absurd (omega (arith, few))
first_of (first ∷ all) (message ∷ messages) rest more good ranges few same =
    let long : message_bytes first ++ (capture all ++ rest) ≡ message_bytes message ++ (capture messages ++ more) =
    sym (append_assoc (message_bytes first) (capture all) rest) ∙ same
    ∙ append_assoc (message_bytes message) (capture messages) more in
    let one : first ≡ message =
    message_only first message (capture all ++ rest) (capture messages ++ more) (All-head IsMessage first all good)
    (All-head IsMessage message messages ranges) long in
    let behind : capture all ++ rest ≡ capture messages ++ more =
    append_cancel_left (message_bytes message) (capture all ++ rest) (capture messages ++ more)
    (ap (λ m. message_bytes m ++ (capture all ++ rest)) (sym one) ∙ long) in
    let next =
    first_of all messages rest more (All-tail IsMessage first all good) (All-tail IsMessage message messages ranges)
    (omega (arith, few)) behind in
    let whole = next.whole in record { later = next.later; whole = cc }

-- The messages of a hart that is selected.
own_selected : (range : HartRange) (hart : ℕ) → selects range hart ≡ true → (messages : List Message)
    → of_hart hart (selected range messages) ≡ of_hart hart messages
own_selected range hart is [] = refl
own_selected range hart is (m ∷ messages) =
    by (m.hart == hart) refl (selects range m.hart) refl (own_selected range hart is messages)
  where
    by : (own : Bool) → (m.hart == hart) ≡ own → (has : Bool) → selects range m.hart ≡ has
        → of_hart hart (selected range messages) ≡ of_hart hart messages
        → of_hart hart (selected range (m ∷ messages)) ≡ of_hart hart (m ∷ messages)
    by true own true has rest = rw (has, own) (ap (λ l. m ∷ l) rest)
    by true own false has rest =
        let both = sym has ∙ ap (selects range) (eqb-true m.hart hart own) ∙ is in cc
    by false own true has rest = rw (has, own) rest
    by false own false has rest = rw (has, own) rest

abbrev is_own : ℕ → PlacedMessage → Bool
is_own hart one = one.message.hart == hart

-- The messages of a hart with their places are its messages.
own_messages : (hart place offset : ℕ) (messages : List Message)
    → map (λ (one : PlacedMessage). one.message) (filter (is_own hart) (placed place offset messages))
    ≡ of_hart hart messages
own_messages hart place offset [] = refl
own_messages hart place offset (m ∷ messages) =
    by (m.hart == hart) refl (own_messages hart (place + 1) (offset + length (message_bytes m)) messages)
  where
    by : (own : Bool) → (m.hart == hart) ≡ own
        → map (λ (one : PlacedMessage). one.message)
        (filter (is_own hart) (placed (place + 1) (offset + length (message_bytes m)) messages)) ≡ of_hart hart messages
        → map (λ (one : PlacedMessage). one.message) (filter (is_own hart) (placed place offset (m ∷ messages)))
        ≡ of_hart hart (m ∷ messages)
    by true own rest = rw own (ap (λ l. m ∷ l) rest)
    by false own rest = rw own rest

placed_messages : (before : List Step) (last : PlacedMessage)
    → map (λ (one : PlacedMessage). one.message) (map (λ (step : Step). step.0) before ++ last ∷ [])
    ≡ messages_in before ++ last.message ∷ []
placed_messages [] last = refl
placed_messages (step ∷ before) last = ap (λ l. step.0.message ∷ l) (placed_messages before last)

-- The payload of a message is that of a packet.
record Unpacks (m : Message) : Type 0 where
  packet : Packet
  is : reading m.payload ≡ Ok packet

-- So it is of each that is accepted.
accepted_unpack : (expected : Harts) (messages : List Message) → AreAccepted expected messages → All Unpacks messages
accepted_unpack expected [] accepted = All-nil Unpacks
accepted_unpack expected (m ∷ messages) accepted =
    let one = answered (accepting expected m) accepted.0 in
    All-cons Unpacks m messages
    (record { packet = one.0; is = ((answer-unpacked (slice_get expected m.hart) m (Ok one.0)).0 one.1).1 })
    (accepted_unpack (harts_after expected m) messages accepted.1)

-- Harts that have numbers in order.
numbered_at : (first : ℕ) (harts : List ExplainedHart) → AreNumbered first harts → (place : ℕ) (hart : ExplainedHart)
    → slice_get harts place ≡ Some hart → hart.line.hart ≡ first + place
numbered_at first [] numbered place hart there = cc
numbered_at first (one ∷ harts) numbered zero hart there =
    ap (λ (hart : ExplainedHart). hart.line.hart) (sym (same_Some one hart there)) ∙ numbered.0 ∙ omega arith
numbered_at first (one ∷ harts) numbered (suc place) hart there =
    numbered_at (first + 1) harts numbered.1 place hart there ∙ omega arith

module _ (range : HartRange) (words : Words) (bytes : List ℕ) (stop : Option (ℕ × CaptureFault))
    (harts : List ExplainedHart) (early : StopsEarly words bytes stop harts) where
  abbrev hart : ℕ
  hart = early.hart.line.hart

  abbrev before : List Message
  before = messages_in early.refused.before

  abbrev last : Message
  last = early.refused.last.message

  own : of_hart hart early.messages ≡ before ++ last ∷ []
  own =
      sym (own_messages hart 0 (first_offset early.header) early.messages)
      ∙ ap (map (λ (one : PlacedMessage). one.message)) early.refused.whole
      ∙ placed_messages early.refused.before early.refused.last

  some : early.messages ≡ [] → ⊥
  some none =
      let many = length-append before (last ∷ []) in
      let counted = ap length (sym own ∙ ap (of_hart hart) none) in omega (arith, many, counted)

  module _ (count : ℕ) (announced : Option Mode) (body : List ℕ) (lists : List (List Event)) (closed : List Bool)
      (are : AreHartsDecoded range words count announced body lists closed stop)
      (begins : body ≡ capture early.messages ++ early.rest) (has : selects range hart ≡ true) (list : List Event)
      (there : slice_get lists hart ≡ Some list) where
    both : capture are.messages ++ are.rest ≡ capture early.messages ++ early.rest
    both = sym are.whole ∙ begins

    begin : Begins are.messages early.messages
    begin = by stop are.stops early.early
      where
        by : (stop : Option (ℕ × CaptureFault)) → StopsOf range words count announced are.messages are.rest stop
            → before_stop stop early.messages ≡ early.messages → Begins are.messages early.messages
        by None none same =
            let split = capture_split are.messages early.messages early.rest are.ranges early.ranges
            (sym (append-nil (capture are.messages)) ∙ ap (λ rest. capture are.messages ++ rest) (sym none) ∙ both) in
            record { later = split.later; whole = split.whole }
        by (Some stop) at same =
            let many = length-take stop.0 early.messages in
            let counted = ap length same in
            let here = at.0 in
            first_of are.messages early.messages are.rest early.rest are.ranges early.ranges
            (omega (arith, many, counted, here)) both

    abbrev later : List Message
    later = of_hart hart begin.later

    all_own : of_hart hart (selected range are.messages) ≡ before ++ (last ∷ later)
    all_own =
        own_selected range hart has are.messages ∙ ap (of_hart hart) begin.whole
        ∙ of_hart-append hart early.messages begin.later ∙ ap (λ l. l ++ later) own ∙ append_assoc before (last ∷ []) later

    read : Unpacks last
    read =
        All-middle Unpacks before last later
        (subst (All Unpacks) all_own
        (All-filter (λ (m : Message). m.hart == hart) Unpacks (selected range are.messages)
        (accepted_unpack (newcomers count) (selected range are.messages) are.accepted)))

    packets : packets_of hart (selected range are.messages)
        ≡ (packets_in before ++ read.packet ∷ []) ++ packets_in later
    packets =
        ap packets_in all_own ∙ packets_in-append before (last ∷ later)
        ∙ ap (λ l. packets_in before ++ l) (packets_in-cons last later read.packet read.is)
        ∙ sym (append_assoc (packets_in before) (read.packet ∷ []) (packets_in later))

    -- The messages of the hart are decoded.
    never : ⊥
    never =
        let described = subst (λ ps. Describes words ps list) packets (are.decoded.described hart list there) in
        early.refused.refused read.packet read.is _
        (front_describes words (packets_in before ++ read.packet ∷ []) (packets_in later) list described).0

  module _ (has : selects range hart ≡ true) (lists : List (List Event)) (list : List Event)
      (there : slice_get lists hart ≡ Some list) (count : ℕ) (closed : List Bool) where
    pub never_decoded : IsDecodedOf range words count bytes lists closed stop → ⊥
    never_decoded (IsDecodedOf.Version1 unmarked are) = by early.header early.begins
      where
        by : (header : Option Header) → BeginsWith header bytes (capture early.messages ++ early.rest) → ⊥
        by None begins = never count None bytes lists closed are begins.1 has list there
        by (Some header) begins =
            absurd (unmarked (setting_bytes header ++ (capture early.messages ++ early.rest), begins.1))
    never_decoded (IsDecodedOf.Version2 header rest is whole are) = by early.header early.begins
      where
        by : (other : Option Header) → BeginsWith other bytes (capture early.messages ++ early.rest) → ⊥
        by None begins = absurd (begins.0 (setting_bytes header ++ rest, whole))
        by (Some other) begins =
            let left = capture early.messages ++ early.rest in
            let both = sym whole ∙ begins.1 in
            let same = header_only header other rest left is begins.0 both in
            never header.harts (Some header.mode) rest lists closed are
            (append_cancel_left (header_bytes header) rest left
            (both ∙ ap (λ (other : Header). header_bytes other ++ left) (sym same))) has list there
    never_decoded (IsDecodedOf.NoHeader why none is no_lists no_flags) =
        some (sym early.early ∙ ap (λ stop. before_stop stop early.messages) is)

-- So none stops early.
pub none_early : NoneStopsEarly
none_early range words count bytes gots stop harts got numbered many early =
    let lists = got.lists in
    let flags = flags_many range words count bytes lists got.closed stop got.decoded in
    let place = early.place in
    let here = slice_get_within harts place early.hart early.here in
    let counts = count_of (before_stop stop got.messages) in
    let all = gots_many counts 0 lists got.closed flags in
    let same = of_same range (gots_by counts 0 lists got.closed) lists all in
    let each = ap length got.each in
    let within : place < length (of_harts range lists) = omega (arith, here, many, each, same) in
    let number = numbered_at range.first harts numbered place early.hart early.here in
    let below = hart_within range lists place within in
    let among = hart_there range lists place within in
    let is : selects range early.hart.line.hart ≡ true =
    rw (number, le-leb range.first (range.first + place) (omega arith), le-leb (range.first + place) range.last below) refl in
    let list = get_or lists early.hart.line.hart [] in
    never_decoded range words bytes stop harts early is lists list
    (slice_get-get_or lists early.hart.line.hart [] (omega (arith, among, number))) count got.closed got.decoded
