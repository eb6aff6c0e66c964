-- A capture, turn after turn.
use Rattle.std.proofs.Common.{◌≡◌, ◌⊎◌, inl, inr, ◌<◌, ◌≤◌, ◌+◌, ◌∙◌, ℕ, zero, suc, List, [], ◌++◌, Option, Some, None}
use Rattle.std.proofs.Common.{arith, length, slice_get, get_or, append-nil, ap, refl, subst, sym}
use Rattle.std.proofs.KnownBytes.{Appends-trans}
use Rattle.std.proofs.lemmas.List.{length-replicate}
use Rattle.std.proofs.lemmas.Option.{slice_get_cases}
use Rattle.std.specs.Prelude.{OnOk, Result, Ok, Err}
use Rattle.std.specs.Io.KnownBytes.{Appends}
use Rattle.output.specs.Begun.{AppendsBeginning}
use Rattle.output.proofs.Beginnings.{begun_behind, begun_in_front}
use Rattle.rvclass.specs.Fetch.{words_of}
use Rattle.rvclass.specs.Image.{Image, IsImage}
use Rattle.rvclass.specs.Words.{Words}
use Rattle.message.specs.Capture.{capture}
use Rattle.message.specs.declared.message.Message.{Message}
use Rattle.captures.specs.Versions.{start_bytes}
use Rattle.stimulus.specs.Mixed.{AppendsMixed, Plan, Sent, SendsLog, Stand, after_closing, after_turns, closes, closes_one}
use Rattle.stimulus.specs.Mixed.{first_order, goes, has_turn, header_of, mixed_capture, mixed_messages, none_sent, plan_of}
use Rattle.stimulus.specs.Mixed.{sent_by, unsent}
use Rattle.stimulus.specs.Order.{Drawn, next_turn}
use Rattle.stimulus.specs.declared.capturing.Capture.{Capture}
use Rattle.stimulus.specs.declared.order.Turn.{Turn}
use Rattle.stimulus.specs.declared.sender.Sender.{Sender}
use Rattle.stimulus.specs.steps.Sending.{AllBegun, AllSend, AreSent, Grows, IsClosed}
use Rattle.stimulus.proofs.SendLemmas.{all_both, all_stay, all_then_begun, begun_longer, log_sent, grows_both}

-- Messages that are as they were.
grows_not : (messages : List Message) → Grows messages messages
grows_not messages = record { more = []; parted = sym (append-nil messages) }

-- Messages that grow at each of the steps from one count to another.
grow_along : (at : ℕ → List Message) → ((count : ℕ) → Grows (at count) (at (suc count))) → (count more most : ℕ)
    → most ≡ more + count → Grows (at count) (at most)
grow_along at each count zero most is =
    let same : count ≡ most = omega (arith, is) in subst (λ n. Grows (at count) (at n)) same (grows_not (at count))
grow_along at each count (suc more) most is =
    let last : suc (more + count) ≡ most = omega (arith, is) in
    subst (λ n. Grows (at count) (at n)) last
    (grows_both (at count) (at (more + count)) (at (suc (more + count))) (grow_along at each count more (more + count) refl)
    (each (more + count)))

module _ (words : Words) (plan : Plan) where
  -- Where a hart goes on, the messages grow.
  pub goes_grow : (on : Stand → Stand) (hart : ℕ) (sent : Sent) → Grows sent.messages (goes words plan on hart sent).messages
  goes_grow on hart sent = record { more = sent_by words plan on hart (slice_get sent.stands hart); parted = refl }

  closes_grow : (hart : Option ℕ) (sent : Sent) → Grows sent.messages (closes_one words plan hart sent).messages
  closes_grow None sent = grows_not sent.messages
  closes_grow (Some hart) sent = goes_grow closes hart sent

  -- Turn after turn harts send.
  module _ (first : Sent × Drawn) where
    turns_none : after_turns words plan first 0 ≡ first
    unfolding after_turns
    turns_none = refl

    abbrev step : Sent × Drawn → Sent × Drawn
    step before =
        let next = next_turn before.1 in
        (goes words plan has_turn next.0.hart (closes_one words plan next.0.closing before.0), next.1)

    step_is : (count : ℕ) → step (after_turns words plan first count) ≡ after_turns words plan first (suc count)
    unfolding after_turns
    step_is count = refl

    turn_grows : (count : ℕ)
        → Grows (after_turns words plan first count).0.messages (after_turns words plan first (suc count)).0.messages
    turn_grows count =
        let before = after_turns words plan first count in
        let next = next_turn before.1 in
        let mid = closes_one words plan next.0.closing before.0 in
        subst (λ (after : Sent × Drawn). Grows before.0.messages after.0.messages) (step_is count)
        (grows_both before.0.messages mid.messages (goes words plan has_turn next.0.hart mid).messages
        (closes_grow next.0.closing before.0) (goes_grow has_turn next.0.hart mid))

    turns_grow : (count more most : ℕ) → most ≡ more + count
        → Grows (after_turns words plan first count).0.messages (after_turns words plan first most).0.messages
    turns_grow = grow_along (λ n. (after_turns words plan first n).0.messages) turn_grows

  -- So many turns were taken.
  pub record Turned (first : Sent × Drawn) (count : ℕ) (drawn : Drawn) (senders : List Sender)
      (old new : Option (List ℕ)) : Type 0 where
    pub sent : AllSend words plan first.0 (after_turns words plan first count).0 senders old new
    pub drawn_is : (after_turns words plan first count).1 ≡ drawn

  pub turned_none : (first : Sent × Drawn) (senders : List Sender) (old : Option (List ℕ))
      → AreSent words plan first.0 senders → Turned first 0 first.1 senders old old
  turned_none first senders old are = record {
    sent = subst (λ (after : Sent × Drawn). AllSend words plan first.0 after.0 senders old old) (sym (turns_none first))
        (all_stay words plan first.0 senders old are);
    drawn_is = ap (λ (after : Sent × Drawn). after.1) (turns_none first);
  }

  module _ (first : Sent × Drawn) (count : ℕ) (drawn after : Drawn) (turn : Turn) (before mid senders : List Sender)
      (old then between new : Option (List ℕ)) (turned : Turned first count drawn before old then)
      (next : (turn, after) ≡ next_turn drawn) where
    -- What was sent before the turn, once a hart has closed its trace, and after it.
    abbrev was : Sent
    was = (after_turns words plan first count).0

    abbrev closed : Sent
    closed = closes_one words plan turn.closing was

    turn_is : next_turn (after_turns words plan first count).1 ≡ (turn, after)
    turn_is = ap next_turn turned.drawn_is ∙ sym next

    next_is : after_turns words plan first (count + 1) ≡ (goes words plan has_turn turn.hart closed, after)
    next_is =
        let one_more : count + 1 ≡ suc count = omega arith in
        ap (after_turns words plan first) one_more ∙ sym (step_is first count)
        ∙ ap (λ (n : Turn × Drawn). (goes words plan has_turn n.0.hart (closes_one words plan n.0.closing was), n.1))
        turn_is

    -- One turn more is taken.
    pub turned_more : AllSend words plan was closed mid then between
        → AllSend words plan closed (goes words plan has_turn turn.hart closed) senders between new
        → Turned first (count + 1) after senders old new
    turned_more one two = record {
      sent = subst (λ (n : Sent × Drawn). AllSend words plan first.0 n.0 senders old new) (sym next_is)
          (all_both words plan first.0 closed (goes words plan has_turn turn.hart closed) mid senders old between new
          (all_both words plan first.0 was closed before mid old then between turned.sent one) two);
      drawn_is = ap (λ (n : Sent × Drawn). n.1) next_is;
    }

    -- The messages of all turns come after those of this one.
    abbrev later : (most : ℕ) → Type 0
    later most = Grows (goes words plan has_turn turn.hart closed).messages (after_turns words plan first most).0.messages

    all_later : (most more : ℕ) → most ≡ more + (count + 1) → later most
    all_later most more is =
        subst (λ (n : Sent × Drawn). Grows n.0.messages (after_turns words plan first most).0.messages) next_is
        (turns_grow first (count + 1) more most is)

    -- A beginning of what the hart that closes its trace sends is written.
    pub closing_begun : (most more : ℕ) → most ≡ more + (count + 1) → AllBegun was closed then between
        → AllBegun first.0 (after_turns words plan first most).0 old between
    closing_begun most more is begun =
        begun_longer first.0 closed (after_turns words plan first most).0 old between
        (all_then_begun words plan first.0 was closed before old then between turned.sent begun)
        (grows_both closed.messages (goes words plan has_turn turn.hart closed).messages
        (after_turns words plan first most).0.messages (goes_grow has_turn turn.hart closed) (all_later most more is))

    -- A beginning of what the hart of the turn sends is written.
    pub sending_begun : (most more : ℕ) → most ≡ more + (count + 1) → AllSend words plan was closed mid then between
        → AllBegun closed (goes words plan has_turn turn.hart closed) between new
        → AllBegun first.0 (after_turns words plan first most).0 old new
    sending_begun most more is one begun =
        begun_longer first.0 (goes words plan has_turn turn.hart closed) (after_turns words plan first most).0 old new
        (all_then_begun words plan first.0 closed (goes words plan has_turn turn.hart closed) mid old between new
        (all_both words plan first.0 was closed before mid old then between turned.sent one) begun)
        (all_later most more is)

  -- Hart after hart closes its trace.
  module _ (sent : Sent) where
    pub closing_none : after_closing words plan sent 0 ≡ sent
    unfolding after_closing
    closing_none = refl

    closing_suc : (count : ℕ) → goes words plan closes count (after_closing words plan sent count)
        ≡ after_closing words plan sent (suc count)
    unfolding after_closing
    closing_suc count = refl

    pub closing_more : (count : ℕ) → goes words plan closes count (after_closing words plan sent count)
        ≡ after_closing words plan sent (count + 1)
    closing_more count =
        let one_more : suc count ≡ count + 1 = omega arith in
        closing_suc count ∙ ap (after_closing words plan sent) one_more

    pub closing_grow : (count more most : ℕ) → most ≡ more + count
        → Grows (after_closing words plan sent count).messages (after_closing words plan sent most).messages
    closing_grow =
        grow_along (λ n. (after_closing words plan sent n).messages) (λ n.
        subst (λ (s : Sent). Grows (after_closing words plan sent n).messages s.messages) (closing_suc n)
        (goes_grow closes n (after_closing words plan sent n)))

module _ (program : Image) (asked : Capture) where
  abbrev words : Words
  words = words_of program

  abbrev plan : Plan
  plan = plan_of program asked

  abbrev header : List ℕ
  header = start_bytes asked.version (header_of asked)

  abbrev turned : Sent
  turned = (after_turns words plan (none_sent asked.harts, first_order asked) asked.messages).0

  abbrev ended : ℕ → Sent
  ended harts = after_closing words plan turned harts

  messages_are : (ended asked.harts).messages ≡ mixed_messages program asked
  unfolding mixed_messages
  messages_are = refl

  -- How many events a hart has given, where there is one.
  abbrev given_of : Option Sender → ℕ
  given_of None = 0
  given_of (Some sender) = sender.tracer.hart.given

  -- A beginning of the messages of a capture was written after its header.
  pub capture_begun : (harts : ℕ) (old start new : Option (List ℕ)) → harts ≡ asked.harts → Appends old start header
      → AllBegun (none_sent asked.harts) (ended harts) start new
      → AppendsBeginning (mixed_capture program asked) old new
  capture_begun harts old start new all begins begun =
      subst (λ (ms : List Message). AppendsBeginning (header ++ capture ms) old new)
      (sym begun.grows.parted ∙ ap (λ n. (ended n).messages) all ∙ messages_are)
      (begun_behind header (capture begun.grows.more) old start new begins begun.begun)

  -- The turns were not taken to their end.
  pub turns_begun : (old start new : Option (List ℕ)) → Appends old start header
      → AllBegun (none_sent asked.harts) turned start new → AppendsBeginning (mixed_capture program asked) old new
  turns_begun old start new begins begun =
      capture_begun asked.harts old start new refl begins
      (begun_longer (none_sent asked.harts) turned (ended asked.harts) start new begun
      (subst (λ (s : Sent). Grows s.messages (ended asked.harts).messages) (closing_none words plan turned)
      (closing_grow words plan turned 0 asked.harts asked.harts (omega arith))))

  -- A beginning of the header was written, or nothing.
  pub start_begun : (old new : Option (List ℕ)) → AppendsBeginning header old new
      → AppendsBeginning (mixed_capture program asked) old new
  start_begun old new begun = begun_in_front header (capture (mixed_messages program asked)) old new begun

  -- There are as many harts as are asked for.
  pub harts_are : (senders : List Sender) (start new : Option (List ℕ))
      → AllSend words plan (none_sent asked.harts) turned senders start new → length senders ≡ asked.harts
  harts_are senders start new all = all.sent.count ∙ all.count ∙ length-replicate asked.harts unsent

  module _ (image : IsImage program) (senders : List Sender) (old start new : Option (List ℕ)) where
    -- All harts have closed their traces: this is the capture.
    all_sent : AllSend words plan (none_sent asked.harts) (ended asked.harts) senders start new
        → ((hart : ℕ) → hart < length senders → IsClosed hart senders) → Appends old start header
        → AppendsMixed program asked old new
    all_sent all closed begins = record {
      bytes = header ++ capture messages;
      mixed = record {
        counts = λ hart. given_of (slice_get senders hart);
        messages = messages;
        each = λ hart below. each hart below (slice_get_cases senders hart).1
            (slice_get_cases (ended asked.harts).stands hart).1;
        none = λ hart past. all.sent.none hart (omega (arith, past, stands));
        mixed = messages_are;
        whole = refl;
      };
      text = Appends-trans old start new header (capture messages) begins
          (subst (λ ms. Appends start new (capture ms)) (sym all.grows.parted) all.text);
    }
      where
        messages : List Message
        messages = (ended asked.harts).messages

        stands : length (ended asked.harts).stands ≡ asked.harts
        stands = all.count ∙ length-replicate asked.harts unsent

        each : (hart : ℕ) → hart < asked.harts
            → ((sender : Sender) × (hart < length senders) × (slice_get senders hart ≡ Some sender)
            × (get_or senders hart sender ≡ sender))
            ⊎ ((length senders ≤ hart) × (slice_get senders hart ≡ None))
            → ((stand : Stand) × (hart < length (ended asked.harts).stands)
            × (slice_get (ended asked.harts).stands hart ≡ Some stand)
            × (get_or (ended asked.harts).stands hart stand ≡ stand))
            ⊎ ((length (ended asked.harts).stands ≤ hart) × (slice_get (ended asked.harts).stands hart ≡ None))
            → SendsLog program asked hart (given_of (slice_get senders hart)) messages
        each hart below (inl at) (inl stand) =
            log_sent program image asked hart (given_of (slice_get senders hart)) messages stand.0 at.0
            (all.sent.each hart at.0 stand.0 at.2 stand.2) (closed hart at.1 at.0 at.2)
            (all.sent.own hart stand.0 stand.2) (ap given_of at.2)
        each hart below (inl at) (inr past) = let never : ⊥ = omega (arith, past.0, below, stands) in absurd never
        each hart below (inr past) stand =
            let never : ⊥ = omega (arith, past.0, below, stands, all.sent.count) in absurd never

    -- The harts send messages after the header, and then all close their traces.
    pub sent_to_end : {E : Type 0} (mid : List Sender) (between : Option (List ℕ)) (r : Result Unit E)
        → Appends old start header → AllSend words plan (none_sent asked.harts) turned mid start between
        → OnOk r (AllSend words plan turned (ended (length mid)) senders between new)
        → ((hart : ℕ) → hart < length senders → OnOk r (IsClosed hart senders))
        → OnOk r (AppendsMixed program asked old new)
    sent_to_end mid between (Ok x) begins one two closed =
        all_sent (all_both words plan (none_sent asked.harts) turned (ended asked.harts) mid senders start between new one
        (subst (λ n. AllSend words plan turned (ended n) senders between new) (harts_are mid start between one) two))
        closed begins
    sent_to_end mid between (Err e) begins one two closed = tt
