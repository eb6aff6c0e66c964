-- Places of messages, and one message more.
use Rattle.std.proofs.Common.{◌≡◌, ◌≢◌, ◌⊎◌, inl, inr, ◌<◌, ◌≤◌, ◌+◌, ℕ, zero, suc, true, false, true≢false, All, List, []}
use Rattle.std.proofs.Common.{◌∷◌, ◌++◌, Bool}
use Rattle.std.specs.Prelude.{IfSome, Option}
use Rattle.std.proofs.Common.{Some, None, Ok, drop, get_or, length, slice_get, take, arith, refl, sym, ap, subst, ◌∙◌, take-append-drop}
use Rattle.std.proofs.lemmas.List.{append-nil, append_assoc, drop-drop, drop_at, drop_more, length-append, length-drop, take_all, take_more}
use Rattle.std.proofs.lemmas.List.Elements.{All-cons, All-nil}
use Rattle.std.specs.declared.vec.Vec.{Vec}
use Rattle.message.proofs.Selecting.{none_selected, one_selected, selected-append}
use Rattle.message.specs.Range.{selected, selects}
use Rattle.message.specs.declared.range.HartRange.{HartRange}
use Rattle.message.proofs.AcceptedLemmas.{answered}
use Rattle.message.proofs.OfHartLemmas.{of_hart-next, of_hart-other}
use Rattle.payload.specs.Reading.{reading}
use Rattle.payload.specs.declared.packet.Packet.{Packet}
use Rattle.message.specs.Accepted.{AreAccepted}
use Rattle.message.specs.Accepting.{accepting, harts_after}
use Rattle.message.specs.Capture.{capture, message_bytes}
use Rattle.message.specs.Cut.{IsMessage}
use Rattle.message.specs.Harts.{Harts}
use Rattle.message.specs.OfHart.{of_hart}
use Rattle.message.specs.declared.message.Message.{Message}
use Rattle.receiver.proofs.AcceptLemmas.{packet_read}
use Rattle.parallel_decode.specs.Places.{AreFirst, AreListed, ArePlaced, EachAt, HasPacketAt, IsAdded, IsAt, IsReadOf}

-- What is selected of a message and others behind it.
pub selected_first : (range : HartRange) (message : Message) (messages : List Message)
    → selects range message.hart ≡ true → selected range (message ∷ messages) ≡ message ∷ selected range messages
selected_first range message messages is = rw is refl

pub selected_others : (range : HartRange) (message : Message) (messages : List Message)
    → selects range message.hart ≡ false → selected range (message ∷ messages) ≡ selected range messages
selected_others range message messages is = rw is refl

-- Each message of some harts has a packet, where a demultiplexer accepts all messages of these.
pub all_read : (range : HartRange) (expected : Harts) (messages : List Message)
    → AreAccepted expected (selected range messages) → All (IsReadOf range) messages
all_read range expected [] accepted = All-nil (IsReadOf range)
all_read range expected (message ∷ messages) accepted =
    by_range (selects range message.hart) refl (λ expected. all_read range expected messages)
  where
    by_range : (is_selected : Bool) → selects range message.hart ≡ is_selected
        → ((expected : Harts) → AreAccepted expected (selected range messages) → All (IsReadOf range) messages)
        → All (IsReadOf range) (message ∷ messages)
    by_range true is others =
        let all = subst (AreAccepted expected) (selected_first range message messages is) accepted in
        let packet = answered (accepting expected message) all.0 in
        let read = packet_read expected message (Ok packet.0) (sym packet.1) in
        All-cons (IsReadOf range) message messages (λ _. record { packet = packet.0; read = read })
        (others (harts_after expected message) all.1)
    by_range false other others =
        All-cons (IsReadOf range) message messages (λ is. absurd (true≢false (sym is ∙ other)))
        (others expected (subst (AreAccepted expected) (selected_others range message messages other) accepted))

-- Any message, for places where there is none.
abbrev pub any_message : Message
any_message = record { hart = 0; number = 0; payload = [] }

module _ (Is : ℕ → Message → Type 0) where
  -- One place more, of one message more.
  pub places-push : (places : List ℕ) (messages : List Message) (place : ℕ) (message : Message)
      → EachAt Is places messages → Is place message → EachAt Is (places ++ place ∷ []) (messages ++ message ∷ [])
  places-push [] [] place message are is = (is, tt)
  places-push [] (first ∷ messages) place message are is = absurd are
  places-push (at ∷ places) [] place message are is = absurd are
  places-push (at ∷ places) (first ∷ messages) place message are is =
      (are.0, places-push places messages place message are.1 is)

  -- There are as many places as messages.
  pub places-length : (places : List ℕ) (messages : List Message) → EachAt Is places messages
      → length places ≡ length messages
  places-length [] [] are = refl
  places-length [] (first ∷ messages) are = absurd are
  places-length (at ∷ places) [] are = absurd are
  places-length (at ∷ places) (first ∷ messages) are = ap suc (places-length places messages are.1)

  -- The message at a place.
  pub message-at : (places : List ℕ) (messages : List Message) (i any : ℕ) → EachAt Is places messages
      → i < length places → Is (get_or places i any) (get_or messages i any_message)
  message-at [] messages i any are within = absurd (omega (arith, within))
  message-at (at ∷ places) [] i any are within = absurd are
  message-at (at ∷ places) (first ∷ messages) zero any are within = are.0
  message-at (at ∷ places) (first ∷ messages) (suc i) any are within =
      message-at places messages i any are.1 (omega (arith, within))

  -- The message at a place, after those before it.
  pub record Placed (messages : List Message) (i place : ℕ) : Type 0 where
    pub message : Message
    pub later : List Message
    pub whole : messages ≡ take i messages ++ message ∷ later
    pub next : take (i + 1) messages ≡ take i messages ++ message ∷ []
    pub is_at : Is place message

  pub place-at : (places : List ℕ) (messages : List Message) (i any : ℕ) → EachAt Is places messages
      → i < length places → Placed messages i (get_or places i any)
  place-at places messages i any are within =
      let few : i < length messages = omega (arith, within, places-length places messages are) in
      record {
        message = get_or messages i any_message;
        later = drop (i + 1) messages;
        whole =
            sym (take-append-drop i messages)
            ∙ ap (λ l. take i messages ++ l) (drop_more messages i any_message few);
        next = take_more messages i any_message few;
        is_at = message-at places messages i any are within;
      }

  module _ {A : Type 0} (old new : List (Vec ℕ A)) (messages : List Message) (message : Message) (place : ℕ)
      (are : AreListed Is old messages) where
    -- The place of one message more was added to the list of its hart,
    listed_more : IsAdded message.hart place old new → Is place message → AreListed Is new (messages ++ message ∷ [])
    listed_more added is = λ hart own own_is. by_hart hart own (added hart own own_is)
      where
        by_hart : (hart : ℕ) (own : Vec ℕ A) → (before : Vec ℕ A) × (slice_get old hart ≡ Some before)
            × (((hart ≡ message.hart) × (own.items ≡ before.items ++ place ∷ []))
            ⊎ ((hart ≢ message.hart) × (own.items ≡ before.items)))
            → EachAt Is own.items (of_hart hart (messages ++ message ∷ []))
        by_hart hart own (before, was, inl (here, pushed)) =
            subst (λ items. EachAt Is items (of_hart hart (messages ++ message ∷ []))) (sym pushed)
            (subst (λ h. EachAt Is (before.items ++ place ∷ []) (of_hart h (messages ++ message ∷ []))) (sym here)
            (subst (EachAt Is (before.items ++ place ∷ [])) (sym (of_hart-next messages message))
            (places-push before.items (of_hart message.hart messages) place message
            (subst (λ h. EachAt Is before.items (of_hart h messages)) here (are hart before was)) is)))
        by_hart hart own (before, was, inr (there, same)) =
            subst (λ items. EachAt Is items (of_hart hart (messages ++ message ∷ []))) (sym same)
            (subst (EachAt Is before.items) (sym (of_hart-other hart messages message (λ is. there (sym is))))
            (are hart before was))

    -- if it is one of the harts in a range.
    pub listed_selected : (range : HartRange)
        → (selects range message.hart ≡ true → IsAdded message.hart place old new)
        → (selects range message.hart ≡ false → new ≡ old) → (selects range message.hart ≡ true → Is place message)
        → AreListed Is new (messages ++ selected range (message ∷ []))
    listed_selected range added passed is = by_range (selects range message.hart) refl
      where
        by_range : (is_selected : Bool) → selects range message.hart ≡ is_selected
            → AreListed Is new (messages ++ selected range (message ∷ []))
        by_range true mine =
            subst (λ ms. AreListed Is new (messages ++ ms)) (sym (one_selected range message mine))
            (listed_more (added mine) (is mine))
        by_range false other =
            subst (λ ms. AreListed Is new (messages ++ ms)) (sym (none_selected range message other))
            (subst (AreListed Is new) (sym (append-nil messages))
            (subst (λ lists. AreListed Is lists messages) (sym (passed other)) are))

-- The packet that was found is that of the message which is here.
pub packet_here : (bytes left : List ℕ) (place : ℕ) (message : Message) (found : Option Packet)
    → place ≤ length bytes → drop place bytes ≡ message_bytes message ++ left → IsMessage message
    → IfSome found (λ packet. reading message.payload ≡ Ok packet) → IfSome found (HasPacketAt bytes place)
packet_here bytes left place message None within begins ranges read = tt
packet_here bytes left place message (Some packet) within begins ranges read = record {
  message = message;
  is_at = record {
    rest = left;
    within = within;
    begins = begins;
    ranges = ranges;
    read = record { packet = packet; read = read };
  };
  read = read;
}

-- The places of the first messages are known, as far as they are of some harts, and the bytes of the others are left.
pub record Places {A : Type 0} (range : HartRange) (bytes : List ℕ) (places : List (Vec ℕ A)) (left : List ℕ)
    (count : ℕ) (messages : List Message) : Type 0 where
  pub rest : List ℕ
  pub left_is : left ≡ capture (drop count messages) ++ rest
  pub placed : ArePlaced bytes places (selected range (take count messages))

module _ {A : Type 0} (range : HartRange) (bytes : List ℕ) (places : List (Vec ℕ A)) (left : List ℕ) (n count : ℕ)
    (messages : List Message) (first : AreFirst range bytes count messages)
    (are : Places range bytes places left n messages) (more : n < count) where
  -- The next message.
  abbrev pub next_message : Message
  next_message = get_or messages n any_message

  within : n < length messages
  within = let counted = first.counted in omega (arith, more, counted)

  -- The bytes that are left behind it.
  abbrev pub next_left : List ℕ
  next_left = capture (drop (n + 1) messages) ++ are.rest

  pub next_is_message : IsMessage next_message
  next_is_message = first.ranges n any_message within

  pub begins_next : left ≡ message_bytes next_message ++ next_left
  begins_next =
      are.left_is
      ∙ ap (λ ms. capture ms ++ are.rest) (drop_more messages n any_message within)
      ∙ append_assoc (message_bytes next_message) (capture (drop (n + 1) messages)) are.rest

  -- It begins at the place where the bytes are left. If it is of the harts in the range, its payload is a packet.
  pub next_is_at : (place : ℕ) → place ≤ length bytes → drop place bytes ≡ left
      → selects range next_message.hart ≡ true → IsAt bytes place next_message
  next_is_at place fits here is = record {
    rest = next_left;
    within = fits;
    begins = here ∙ begins_next;
    ranges = next_is_message;
    read = first.read n any_message within is;
  }

  -- With it one more is known.
  pub places_more : (places' : List (Vec ℕ A)) (left' : List ℕ) → left' ≡ next_left
      → ArePlaced bytes places' (selected range (take n messages) ++ selected range (next_message ∷ []))
      → Places range bytes places' left' (n + 1) messages
  places_more places' left' same placed = record {
    rest = are.rest;
    left_is = same;
    placed = subst (ArePlaced bytes places')
        (sym (ap (selected range) (take_more messages n any_message within)
        ∙ selected-append range (take n messages) (next_message ∷ []))) placed;
  }

-- At last all are.
pub places_all : {A : Type 0} (range : HartRange) (bytes : List ℕ) (places : List (Vec ℕ A)) (left : List ℕ)
    (n count : ℕ) (messages : List Message) → AreFirst range bytes count messages
    → Places range bytes places left n messages → count ≤ n → ArePlaced bytes places (selected range messages)
places_all range bytes places left n count messages first are over =
    let counted = first.counted in
    subst (λ ms. ArePlaced bytes places (selected range ms)) (take_all n messages (omega (arith, over, counted)))
    are.placed

-- The place behind a message.
pub place_behind : (bytes left next : List ℕ) (place size : ℕ) (message : Message) → drop place bytes ≡ left
    → place ≤ length bytes → left ≡ message_bytes message ++ next → size ≡ length (message_bytes message)
    → (drop (place + size) bytes ≡ next) × (place + size ≤ length bytes)
place_behind bytes left next place size message here fits begins is =
    let front = message_bytes message in
    let dropped = length-drop place bytes in
    let counted = ap length (here ∙ begins) ∙ length-append front next in (
      sym (drop-drop size place bytes) ∙ ap (drop size) (here ∙ begins) ∙ drop_at front next size (sym is),
      omega (arith, fits, is, dropped, counted),
    )
