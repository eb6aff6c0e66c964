-- The messages of a capture that are followed hart by hart, and one more.
use Rattle.std.proofs.Common.{◌≡◌, ◌≢◌, ◌∙◌, ◌⊎◌, ◌≤◌, ◌+◌, ◌++◌, ℕ, zero, suc, All, Bool, true, false, List, [], ◌∷◌, Option}
use Rattle.std.proofs.Common.{None, Some, ap, append-nil, arith, filter, inl, inr, length, refl, set, slice_get, subst, sym, true≢false}
use Rattle.std.proofs.lemmas.Bool.{eq-eqb, eqb-true, ne_eqb}
use Rattle.std.proofs.lemmas.Bool.Decides.{eqb_tells}
use Rattle.std.proofs.lemmas.List.{length-append}
use Rattle.std.proofs.lemmas.List.Elements.{All-cons, All-nil, filter-append}
use Rattle.std.proofs.lemmas.Option.{same_Some, slice_get-map}
use Rattle.std.specs.Prelude.{◌==◌, if◌then◌else◌, IfErr, IfOk, Result, Ok, Err, option_map}
use Rattle.captures.proofs.Reaching.{capture_next}
use Rattle.captures.proofs.WholeCaptures.{HasRead, read_next}
use Rattle.captures.specs.NoMessage.{BeginsNone}
use Rattle.captures.specs.declared.outcome.CaptureFault.{CaptureFault}
use Rattle.captures.specs.steps.Reading.{AreReadUpTo}
use Rattle.listing.proofs.PlacedMessages.{placed-next}
use Rattle.listing.specs.Placed.{PlacedMessage, placed}
use Rattle.message.proofs.AcceptedLemmas.{slice_get-set}
use Rattle.message.specs.Capture.{capture, message_bytes}
use Rattle.message.specs.Cut.{HasBadLength, IsCut, IsMessage}
use Rattle.message.specs.declared.fault.MessageFault.{MessageFault}
use Rattle.message.specs.declared.fault.MessageFault.TheVariants as fault
use Rattle.message.specs.declared.message.Message.{Message}
use Rattle.rvclass.specs.Fetch.{words_of}
use Rattle.rvclass.specs.Words.{Words}
use Rattle.comparing.proofs.CountedFronts.{before_none}
use Rattle.comparing.proofs.CountedMessages.{before_more, before_same}
use Rattle.comparing.proofs.MessageBounds.{message_longer}
use Rattle.comparing.specs.Counts.{before_stop}
use Rattle.comparing.specs.Explained.{is_whole_hart}
use Rattle.comparing.specs.Sources.{EndsRefused, own_placed, source_message}
use Rattle.comparing.specs.declared.explained.ExplainedHart.{ExplainedHart}
use Rattle.comparing.specs.declared.source.SourceMessage.{SourceMessage}
use Rattle.comparing.specs.declared.source.SourcingFault.{SourcingFault}
use Rattle.comparing.specs.declared.source.SourcingFault.TheVariants.{Stops}
use Rattle.comparing.specs.declared.sourcing.Followed.{Followed}
use Rattle.comparing.specs.declared.sourcing.StopMessage.{StopMessage}
use Rattle.comparing.specs.declared.trail.Trail.{Trail}
use Rattle.comparing.specs.steps.Counting.{comes_before}
use Rattle.comparing.specs.steps.Following.{IsFollowed}
use Rattle.comparing.specs.steps.Sourcing.{AreFollowed, AreFollowedUpTo, AreNumberedFrom, IsFollowedOn, IsRefusedAt}
use Rattle.comparing.specs.steps.Sourcing.{IsRefusedUpTo, harts_of, stop_message, stopped_after, stopped_in}

abbrev is_of : ℕ → PlacedMessage → Bool
is_of hart one = one.message.hart == hart

-- Of the messages that are a hart's each is of it.
are_of : (hart : ℕ) (all : List PlacedMessage)
    → All (λ (one : PlacedMessage). one.message.hart ≡ hart) (filter (is_of hart) all)
are_of hart [] = All-nil (λ (one : PlacedMessage). one.message.hart ≡ hart)
are_of hart (one ∷ all) = by (one.message.hart == hart) refl (are_of hart all)
  where
    by : (b : Bool) → (one.message.hart == hart) ≡ b
        → All (λ (one : PlacedMessage). one.message.hart ≡ hart) (filter (is_of hart) all)
        → All (λ (one : PlacedMessage). one.message.hart ≡ hart) (filter (is_of hart) (one ∷ all))
    by true is rest = rw is (All-cons (λ (one : PlacedMessage). one.message.hart ≡ hart) one (filter (is_of hart) all)
        (eqb-true one.message.hart hart is) rest)
    by false is rest = rw is rest

-- A message behind these, with its place.
abbrev pub next_placed : ℕ → List Message → Message → PlacedMessage
next_placed offset messages m = record {
  place = length messages;
  offset = offset + length (capture messages);
  message = m;
}

placed_more : (offset : ℕ) (messages : List Message) (m : Message)
    → placed 0 offset (messages ++ m ∷ []) ≡ placed 0 offset messages ++ next_placed offset messages m ∷ []
placed_more offset messages m =
    let here : 0 + length messages ≡ length messages = omega arith in
    placed-next 0 offset messages m
    ∙ ap (λ place. placed 0 offset messages ++ placed place (offset + length (capture messages)) (m ∷ [])) here

own-next : (hart offset : ℕ) (messages : List Message) (m : Message) → m.hart ≡ hart
    → own_placed hart offset (messages ++ m ∷ []) ≡ own_placed hart offset messages ++ next_placed offset messages m ∷ []
own-next hart offset messages m same =
    ap (filter (is_of hart)) (placed_more offset messages m)
    ∙ filter-append (is_of hart) (placed 0 offset messages) (next_placed offset messages m ∷ [])
    ∙ rw (eq-eqb m.hart hart same) refl

own-other : (hart offset : ℕ) (messages : List Message) (m : Message) → m.hart ≢ hart
    → own_placed hart offset (messages ++ m ∷ []) ≡ own_placed hart offset messages
own-other hart offset messages m differs =
    ap (filter (is_of hart)) (placed_more offset messages m)
    ∙ filter-append (is_of hart) (placed 0 offset messages) (next_placed offset messages m ∷ [])
    ∙ rw (ne_eqb m.hart hart differs) (append-nil (own_placed hart offset messages))

-- The trail at a place before.
record WasAt (old : List Trail) (place : ℕ) (trail : Trail) : Type 0 where
  before : Trail
  there : slice_get old place ≡ Some before
  same : before.hart ≡ trail.hart

was_at : (old new : List Trail) (place : ℕ) (trail : Trail) → harts_of new ≡ harts_of old
    → slice_get new place ≡ Some trail → WasAt old place trail
was_at old new place trail harts there = by (slice_get old place) refl
  where
    said : Some trail.hart ≡ option_map (λ (trail : Trail). trail.hart) (slice_get old place)
    said =
        ap (option_map (λ (trail : Trail). trail.hart)) (sym there) ∙ sym (slice_get-map (λ (trail : Trail). trail.hart) new place)
        ∙ ap (λ l. slice_get l place) harts ∙ slice_get-map (λ (trail : Trail). trail.hart) old place

    by : (o : Option Trail) → slice_get old place ≡ o → WasAt old place trail
    by None is = let bad = said ∙ ap (option_map (λ (trail : Trail). trail.hart)) is in cc
    by (Some before) is = record {
      before = before;
      there = is;
      same = sym (same_Some trail.hart before.hart (said ∙ ap (option_map (λ (trail : Trail). trail.hart)) is));
    }

-- Trails of the same harts have the same numbers.
pub numbered_too : (first : ℕ) (old new : List Trail) → harts_of new ≡ harts_of old → AreNumberedFrom first old
    → AreNumberedFrom first new
numbered_too first old new harts numbered = λ place trail there.
    let was = was_at old new place trail harts there in
    ap (λ (hart : ExplainedHart). hart.line.hart) (sym was.same) ∙ numbered place was.before was.there

module _ (what : Followed) (messages : List Message) (m : Message) (at : SourceMessage)
    (is_at : source_message (next_placed what.offset messages m) ≡ at) (old new : List Trail)
    (on : IsFollowedOn what at m old new) (numbered : AreNumberedFrom what.first old)
    (before : AreFollowed (words_of what.program.now) what.offset messages old) where
  abbrev words : Words
  words = words_of what.program.now

  followed_at : (place : ℕ) (trail : Trail) → slice_get new place ≡ Some trail → is_whole_hart trail.hart ≡ false
      → (was : WasAt old place trail)
      → ((what.first + place == m.hart) ≡ true) × (what.first + place ≡ m.hart)
      ⊎ ((what.first + place == m.hart) ≡ false) × (what.first + place ≢ m.hart)
      → IsFollowed words (own_placed trail.hart.line.hart what.offset (messages ++ m ∷ [])) trail
  followed_at place trail there whole was (inl same) =
      let not_whole = ap is_whole_hart was.same ∙ whole in
      let hart_is : was.before.hart.line.hart ≡ m.hart = numbered place was.before was.there ∙ same.1 in
      let placed_were = own_placed was.before.hart.line.hart what.offset messages in
      let now = on.own place was.before trail placed_were (next_placed what.offset messages m) same.1 was.there there not_whole
      refl is_at (subst (λ hart. All (λ (one : PlacedMessage). one.message.hart ≡ hart) placed_were) hart_is
      (are_of was.before.hart.line.hart (placed 0 what.offset messages)))
      (before place was.before was.there not_whole) in
      subst (λ (hart : ExplainedHart). IsFollowed words (own_placed hart.line.hart what.offset (messages ++ m ∷ [])) trail)
      was.same
      (subst (λ own. IsFollowed words own trail)
      (sym (own-next was.before.hart.line.hart what.offset messages m (sym hart_is))) now)
  followed_at place trail there whole was (inr differs) =
      let stays = on.others place trail differs.1 there in
      let hart_is = numbered place trail stays in
      subst (λ own. IsFollowed words own trail)
      (sym (own-other trail.hart.line.hart what.offset messages m (λ is. differs.1 (sym hart_is ∙ sym is))))
      (before place trail stays whole)

  -- One more message is followed.
  pub followed_on : AreFollowed words what.offset (messages ++ m ∷ []) new
  followed_on = λ place trail there whole.
      followed_at place trail there whole (was_at old new place trail on.harts there) (eqb_tells (what.first + place) m.hart)

-- A trail that takes the place of another with the same hart leaves the harts as they are.
harts_kept : (trails : List Trail) (i : ℕ) (trail after : Trail) → slice_get trails i ≡ Some trail
    → after.hart ≡ trail.hart → harts_of (set trails i after) ≡ harts_of trails
harts_kept [] i trail after is same = refl
harts_kept (first ∷ trails) zero trail after is same =
    ap (λ hart. hart ∷ harts_of trails) (same ∙ ap (λ (trail : Trail). trail.hart) (sym (same_Some first trail is)))
harts_kept (first ∷ trails) (suc i) trail after is same =
    ap (λ l. first.hart ∷ l) (harts_kept trails i trail after is same)

module _ (what : Followed) (at : SourceMessage) (m : Message) (old : List Trail) (place : ℕ) (trail after : Trail)
    (here : slice_get old place ≡ Some trail) (hart_is : what.first + place ≡ m.hart) (kept : after.hart ≡ trail.hart)
  where
    abbrev Follows : Trail → Trail → Type 0
    Follows before after =
        (own : List PlacedMessage) (one : PlacedMessage) → one.message ≡ m → source_message one ≡ at
        → All (λ (other : PlacedMessage). other.message.hart ≡ one.message.hart) own
        → IsFollowed (words_of what.program.now) own before → IsFollowed (words_of what.program.now) (own ++ one ∷ []) after

    own_at : (other : ℕ) (before now : Trail) → what.first + other ≡ m.hart → slice_get old other ≡ Some before
        → ((place ≡ other) × (now ≡ after)) ⊎ ((place ≢ other) × (slice_get old other ≡ Some now)) → Follows trail after
        → Follows before now
    own_at other before now same was (inl is) follows =
        let before_is : trail ≡ before =
        same_Some trail before (sym here ∙ ap (slice_get old) is.0 ∙ was) in
        subst (λ now. Follows before now) (sym is.1) (subst (λ before. Follows before after) before_is follows)
    own_at other before now same was (inr differs) follows = absurd (differs.0 (omega (arith, same, hart_is)))

    other_at : (other : ℕ) (now : Trail) → what.first + other ≢ m.hart
        → ((place ≡ other) × (now ≡ after)) ⊎ ((place ≢ other) × (slice_get old other ≡ Some now))
        → slice_get old other ≡ Some now
    other_at other now differs (inl is) = let same = is.0 in absurd (differs (omega (arith, same, hart_is)))
    other_at other now differs (inr is) = is.1

    -- The trail of the message's hart followed it.
    pub set_followed : {E : Type 0} (result : Result (Unit {0}) E)
        → ((own : List PlacedMessage) (one : PlacedMessage) → one.message ≡ m → source_message one ≡ at
        → All (λ (other : PlacedMessage). other.message.hart ≡ one.message.hart) own
        → IsFollowed (words_of what.program.now) own trail
        → IfOk result (λ done. IsFollowed (words_of what.program.now) (own ++ one ∷ []) after))
        → IfOk result (λ done. IsFollowedOn what at m old (set old place after))
    set_followed (Err why) follows = tt
    set_followed (Ok done) follows = record {
      harts = harts_kept old place trail after here kept;
      others = λ other now differs there. other_at other now differs (slice_get-set old place after other now there);
      own = λ other before now own one same was there whole.
          own_at other before now same was (slice_get-set old place after other now there) follows own one;
    }

    -- Or decoding the hart does not go on with it.
    pub set_refused : {X : Type 0} (result : Result X SourcingFault) → is_whole_hart trail.hart ≡ false
        → ((own : List PlacedMessage) (one : PlacedMessage) → one.message ≡ m
        → IsFollowed (words_of what.program.now) own trail → IfErr result (λ why. why ≡ Stops
        → EndsRefused (words_of what.program.now) (own ++ one ∷ []) trail.hart.row))
        → IfErr result (λ why. why ≡ Stops → IsRefusedAt what m old)
    set_refused (Ok done) not_whole refuses = tt
    set_refused (Err why) not_whole refuses = λ stops. record {
      place = place;
      trail = trail;
      hart_is = hart_is;
      here = here;
      not_whole = not_whole;
      refused = λ own one is followed. refuses own one is followed stops;
    }

-- An item behind others.
behind : {X : Type 0} (items : List X) (item : X) → slice_get (items ++ item ∷ []) (length items) ≡ Some item
behind [] item = refl
behind (first ∷ items) item = behind items item

not_behind : {X : Type 0} (items : List X) (item : X) (n : ℕ) → n ≢ length items
    → slice_get (items ++ item ∷ []) n ≡ slice_get items n
not_behind [] item zero differs = absurd (differs refl)
not_behind [] item (suc n) differs = refl
not_behind (first ∷ items) item zero differs = refl
not_behind (first ∷ items) item (suc n) differs = not_behind items item n (λ is. differs (ap (λ n. suc n) is))

placed_many : (place offset : ℕ) (messages : List Message) → length (placed place offset messages) ≡ length messages
placed_many place offset [] = refl
placed_many place offset (m ∷ messages) =
    ap (λ n. suc n) (placed_many (place + 1) (offset + length (message_bytes m)) messages)

module _ (offset : ℕ) (messages : List Message) (m : Message) where
  abbrev all : List PlacedMessage
  all = placed 0 offset messages

  one_more : (stop : ℕ × CaptureFault) (same : Bool) → (stop.0 == length messages) ≡ same
      → (if same then Some (stop_message stop.1 (next_placed offset messages m)) else stopped_in (Some stop) all)
      ≡ stopped_in (Some stop) (all ++ next_placed offset messages m ∷ [])
  one_more stop true is =
      let at_end : stop.0 ≡ length all = eqb-true stop.0 (length messages) is ∙ sym (placed_many 0 offset messages) in
      ap (option_map (stop_message stop.1))
      (sym (behind all (next_placed offset messages m))
      ∙ ap (slice_get (all ++ next_placed offset messages m ∷ [])) (sym at_end))
  one_more stop false is =
      ap (option_map (stop_message stop.1))
      (sym (not_behind all (next_placed offset messages m) stop.0 (λ at_end.
      true≢false (sym (eq-eqb stop.0 (length messages) (at_end ∙ placed_many 0 offset messages)) ∙ is))))

  -- The message at which decoding stops, with one message more.
  pub stopped_next : (stop : Option (ℕ × CaptureFault)) (at : SourceMessage)
      → source_message (next_placed offset messages m) ≡ at
      → stopped_after stop at m.hart (stopped_in stop all) ≡ stopped_in stop (placed 0 offset (messages ++ m ∷ []))
  stopped_next None at is_at = refl
  stopped_next (Some stop) at is_at =
      ap (λ at. stopped_after (Some stop) at m.hart (stopped_in (Some stop) all)) (sym is_at)
      ∙ one_more stop (stop.0 == length messages) refl ∙ ap (stopped_in (Some stop)) (sym (placed_more offset messages m))

-- So many messages of the bytes were read, and those before the one at which decoding stops were followed.
pub record HasFollowed (what : Followed) (bytes left : List ℕ) (old : List Trail) (number offset : ℕ)
    (stopped : Option StopMessage) (trails : List Trail) : Type 0 where
  pub messages : List Message
  pub read : HasRead bytes left messages
  pub counted : number ≡ length messages
  pub offset_is : offset ≡ what.offset + length (capture messages)
  pub bound : length messages + length left ≤ length bytes
  pub harts : harts_of trails ≡ harts_of old
  pub stopped_is : stopped ≡ stopped_in what.stop (placed 0 what.offset messages)
  pub followed : AreFollowed (words_of what.program.now) what.offset [] old → AreNumberedFrom what.first old
      → AreFollowed (words_of what.program.now) what.offset (before_stop what.stop messages) trails

module _ (what : Followed) (bytes left next : List ℕ) (old : List Trail) (number offset : ℕ)
    (stopped : Option StopMessage) (trails : List Trail) (m : Message)
    (has : HasFollowed what bytes left old number offset stopped trails) (is : IsMessage m)
    (begins : left ≡ message_bytes m ++ next) (new : List Trail)
    (on : comes_before what.stop number ≡ true
    → IsFollowedOn what (record { place = number; number = m.number; offset = offset }) m trails new)
    (kept : comes_before what.stop number ≡ false → new ≡ trails) where
  abbrev at : SourceMessage
  at = record { place = number; number = m.number; offset = offset }

  is_at : source_message (next_placed what.offset has.messages m) ≡ at
  is_at =
      ap (λ place. record {
        place = place;
        number = m.number;
        offset = what.offset + length (capture has.messages);
      }) (sym has.counted)
      ∙ ap (λ offset. record { place = number; number = m.number; offset = offset }) (sym has.offset_is)

  harts_stay : (b : Bool) → comes_before what.stop number ≡ b → harts_of new ≡ harts_of trails
  harts_stay true comes = (on comes).harts
  harts_stay false comes = ap harts_of (kept comes)

  followed_by : (b : Bool) → comes_before what.stop number ≡ b
      → AreFollowed (words_of what.program.now) what.offset [] old → AreNumberedFrom what.first old
      → AreFollowed (words_of what.program.now) what.offset (before_stop what.stop (has.messages ++ m ∷ [])) new
  followed_by true comes none numbered =
      let more = before_more what.stop has.messages m (subst (λ n. comes_before what.stop n ≡ true) has.counted comes) in
      subst (λ ms. AreFollowed (words_of what.program.now) what.offset ms new) (sym more.1)
      (followed_on what has.messages m at is_at trails new (on comes)
      (numbered_too what.first old trails has.harts numbered)
      (subst (λ ms. AreFollowed (words_of what.program.now) what.offset ms trails) more.0 (has.followed none numbered)))
  followed_by false comes none numbered =
      let same = before_same what.stop has.messages m (subst (λ n. comes_before what.stop n ≡ false) has.counted comes) in
      subst (λ ms. AreFollowed (words_of what.program.now) what.offset ms new) (sym same)
      (subst (AreFollowed (words_of what.program.now) what.offset (before_stop what.stop has.messages)) (sym (kept comes))
      (has.followed none numbered))

  -- One more was read.
  pub followed_next : HasFollowed what bytes next old (number + 1) (offset + length (message_bytes m))
      (stopped_after what.stop at m.hart stopped) new
  followed_next =
      let many = length-append has.messages (m ∷ []) in
      let counted = has.counted in
      let offset_is = has.offset_is in
      let bound = has.bound in
      let split = ap length begins ∙ length-append (message_bytes m) next in
      let longer = message_longer m in
      record {
        messages = has.messages ++ m ∷ [];
        read = read_next bytes left next has.messages m has.read is begins;
        counted = omega (arith, counted, many);
        offset_is = let more = captures_more in omega (arith, offset_is, more);
        bound = omega (arith, bound, many, split, longer);
        harts = harts_stay (comes_before what.stop number) refl ∙ has.harts;
        stopped_is =
            ap (stopped_after what.stop at m.hart) has.stopped_is
            ∙ stopped_next what.offset has.messages m what.stop at is_at;
        followed = followed_by (comes_before what.stop number) refl;
      }
    where
      captures_more : length (capture (has.messages ++ m ∷ [])) ≡ length (capture has.messages) + length (message_bytes m)
      captures_more =
          ap length (sym (append-nil (capture (has.messages ++ m ∷ [])))) ∙ ap length (capture_next has.messages m [])
          ∙ length-append (capture has.messages) (message_bytes m ++ [])
          ∙ ap (λ n. length (capture has.messages) + n) (ap length (append-nil (message_bytes m)))

module _ (what : Followed) (bytes left next : List ℕ) (old : List Trail) (number offset : ℕ)
    (stopped : Option StopMessage) (trails : List Trail) (m : Message)
    (has : HasFollowed what bytes left old number offset stopped trails) (is : IsMessage m)
    (begins : left ≡ message_bytes m ++ next) where
  -- Decoding its hart does not go on with one more.
  pub refused_next : comes_before what.stop number ≡ true → IsRefusedAt what m trails → IsRefusedUpTo what bytes old
  refused_next comes at =
      let more = before_more what.stop has.messages m (subst (λ n. comes_before what.stop n ≡ true) has.counted comes) in
      let read = read_next bytes left next has.messages m has.read is begins in
      record {
        messages = has.messages ++ m ∷ [];
        rest = next;
        ranges = read.ranges;
        begins = read.whole;
        early = more.1;
        place = at.place;
        hart = at.trail.hart;
        here = ap (λ harts. slice_get harts at.place) (sym has.harts)
            ∙ slice_get-map (λ (trail : Trail). trail.hart) trails at.place
            ∙ ap (option_map (λ (trail : Trail). trail.hart)) at.here;
        not_whole = at.not_whole;
        refused = λ none numbered.
            let hart_is = numbered_too what.first old trails has.harts numbered at.place at.trail at.here ∙ at.hart_is in
            let followed =
            subst (λ ms. AreFollowed (words_of what.program.now) what.offset ms trails) more.0 (has.followed none numbered) in
            subst (λ own. EndsRefused (words_of what.program.now) own at.trail.hart.row)
            (sym (own-next at.trail.hart.line.hart what.offset has.messages m (sym hart_is)))
            (at.refused (own_placed at.trail.hart.line.hart what.offset has.messages)
            (next_placed what.offset has.messages m) refl (followed at.place at.trail at.here at.not_whole));
      }

  -- Where that is why it is not followed, it comes before the message at which decoding stops.
  pub refused_by : (why : SourcingFault)
      → (comes_before what.stop number ≡ false → ◌≡◌ {A = Result (Unit {0}) SourcingFault} (Err why) (Ok tt))
      → IsRefusedAt what m trails → IsRefusedUpTo what bytes old
  refused_by why passed at = by (comes_before what.stop number) refl
    where
      by : (b : Bool) → comes_before what.stop number ≡ b → IsRefusedUpTo what bytes old
      by true comes = refused_next comes at
      by false comes = let both = passed comes in cc

-- At no message decoding stops.
pub stopped_none : (stop : Option (ℕ × CaptureFault)) → None ≡ stopped_in stop []
stopped_none None = refl
stopped_none (Some stop) = at stop.0
  where
    at : (n : ℕ) → None ≡ option_map (stop_message stop.1) (slice_get [] n)
    at zero = refl
    at (suc n) = refl

-- At first none was read.
pub followed_none : (what : Followed) (bytes : List ℕ) (trails : List Trail)
    → HasFollowed what bytes bytes trails 0 what.offset None trails
followed_none what bytes trails = record {
  messages = [];
  read = record { ranges = All-nil IsMessage; whole = refl };
  counted = refl;
  offset_is = omega arith;
  bound = omega arith;
  harts = refl;
  stopped_is = stopped_none what.stop;
  followed = λ none numbered.
      subst (λ ms. AreFollowed (words_of what.program.now) what.offset ms trails) (sym (before_none [] 0 what.stop)) none;
}

module _ (what : Followed) (bytes left : List ℕ) (old : List Trail) (number offset : ℕ) (stopped : Option StopMessage)
    (trails : List Trail) (has : HasFollowed what bytes left old number offset stopped trails) where
  followed_to : (end : Option MessageFault) → AreReadUpTo bytes has.messages end
      → AreFollowedUpTo what bytes old trails stopped
  followed_to end read = record {
    messages = has.messages;
    end = end;
    read = read;
    harts = has.harts;
    stopped_is = has.stopped_is;
    followed = has.followed;
  }

  -- The bytes have ended,
  pub followed_whole : left ≡ [] → AreFollowedUpTo what bytes old trails stopped
  followed_whole ended =
      followed_to None (
        has.read.ranges,
        has.read.whole ∙ ap (λ rest. capture has.messages ++ rest) ended ∙ append-nil (capture has.messages),
      )

  -- or there is no complete message.
  pub followed_cut : (why : MessageFault) → (why ≡ fault.Short) ⊎ (why ≡ fault.BadLength)
      → (why ≡ fault.Short → IsCut left) → (why ≡ fault.BadLength → HasBadLength left)
      → AreFollowedUpTo what bytes old trails stopped
  followed_cut why either cut bad =
      followed_to (Some why)
      (record { rest = left; ranges = has.read.ranges; whole = has.read.whole; stops = none either })
    where
      none : (why ≡ fault.Short) ⊎ (why ≡ fault.BadLength) → BeginsNone left why
      none (inl short) = subst (BeginsNone left) (sym short) (cut short)
      none (inr long) = subst (BeginsNone left) (sym long) (bad long)
