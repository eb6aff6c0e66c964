-- What is held of the messages of SENT that were read, by all of them.
use Rattle.std.proofs.Common.{◌≡◌, ◌⊎◌, inl, inr, ℕ, zero, suc, ◌+◌, ◌-◌, ◌^◌, ◌<◌, ◌≤◌, Bool, true, false, cond, ltb, not, ◌&&◌, List, [], ◌∷◌, ◌++◌, Some, None}
use Rattle.std.proofs.Common.{drop, length, option_map, slice_get, take, sym, ap, ap₂, subst, ◌∙◌, arith}
use Rattle.std.proofs.lemmas.Bool.{and_parts, cases_lt, ltb-true}
use Rattle.std.proofs.lemmas.List.{append-nil, append_assoc, drop_all, length-take, take-append-drop, take_all}
use Rattle.std.proofs.lemmas.Option.{slice_get_within}
use Rattle.message.proofs.Elements.{slice_get-some}
use Rattle.message.specs.OfHart.{of_hart}
use Rattle.message.specs.declared.fault.DemuxFault.{DemuxFault}
use Rattle.message.specs.declared.message.Message.{Message}
use Rattle.auditing.specs.Sent.{AreInTurn, misplaced}
use Rattle.live.specs.Following.{AllWanted, Audited, BeginsMisplaced, EndsWell, FailsAt, IsAudited, IsCut, IsLookFault, IsLooked, Left}
use Rattle.live.specs.Following.{Reads, WasAsked, asked_for, left_after, left_with, looked_to}
use Rattle.live.specs.Holding.{Holding}
use Rattle.live.specs.Holds.{Holds, IsReadFault, is_wanted}
use Rattle.live.specs.View.{standing_of}
use Rattle.live.specs.declared.fault.LookFault.{LookFault}
use Rattle.live.specs.declared.fault.LookFault.TheVariants as look
use Rattle.live.specs.declared.fault.ReadFault.{ReadFault}
use Rattle.live.specs.declared.fault.ReadFault.TheVariants as fault
use Rattle.live.specs.steps.Reading.{refusal_by}
use Rattle.live.proofs.Passing.{drop_from, take_to}
use Rattle.live.proofs.Reading.{not_last, placed_if, why_refused}

-- One more.
next_count : (count : ℕ) → suc count ≡ count + 1
next_count count = omega arith

-- A message among those that are each the next one of its hart.
placed_at : (harts : ℕ) (before messages : List Message) → AreInTurn harts before messages → (k : ℕ) (message : Message)
    → slice_get messages k ≡ Some message → misplaced harts (before ++ take k messages) message ≡ None
placed_at harts before [] turn k message is = cc
placed_at harts before (first ∷ messages) turn zero message is =
    let same : first ≡ message = cc in
    ap (λ l. misplaced harts l message) (append-nil before) ∙ ap (misplaced harts before) (sym same) ∙ turn.0
placed_at harts before (first ∷ messages) turn (suc k) message is =
    ap (λ l. misplaced harts l message) (sym (append_assoc before (first ∷ []) (take k messages)))
    ∙ placed_at harts (before ++ first ∷ []) messages turn.1 k message is

-- So many were read that were asked for.
pub asked_read : (all : Audited) (read : ℕ) → read ≤ length all.sent → WasAsked all read read
asked_read all read within = record { count = omega (arith, within); ended = λ past. absurd (omega (arith, within, past)) }

-- What is not wanted is not asked for, and what is wanted is.
asks_none : (harts window front hart number : ℕ) (sent messages : List Message)
    → is_wanted harts window sent front hart number ≡ false → asked_for harts window front hart number sent messages ≡ 0
asks_none harts window front hart number sent [] none = ap (λ b. cond b 1 0) none
asks_none harts window front hart number sent (message ∷ messages) none =
    ap (λ b. cond b (1 + asked_for harts window front hart number (sent ++ message ∷ []) messages) 0) none

asks_some : (harts window front hart number : ℕ) (sent messages : List Message)
    → is_wanted harts window sent front hart number ≡ true
    → 1 ≤ asked_for harts window front hart number sent messages
asks_some harts window front hart number sent messages wants = by messages
  where
    some : (b : Bool) → b ≡ true → (n : ℕ) → 1 ≤ cond b (1 + n) 0
    some true is n = omega arith
    some false is n = cc

    by : (messages : List Message) → 1 ≤ asked_for harts window front hart number sent messages
    by [] = some (is_wanted harts window sent front hart number) wants 0
    by (message ∷ messages) =
        some (is_wanted harts window sent front hart number) wants
        (asked_for harts window front hart number (sent ++ message ∷ []) messages)

-- The same messages are left.
messages_of : {left other : Left} → left ≡ other → left.messages ≡ other.messages
messages_of same = ap (λ (l : Left). l.messages) same

module _ (all : Audited) (right : IsAudited all) (read : ℕ) (came : List Message) (front : ℕ) (own : Holding)
    (left : Left) (reads : Reads all read came front own left) where
  abbrev pub some : List Message
  some = take read all.sent

  abbrev pub more : List Message
  more = drop read all.sent

  pub parts : some ++ more ≡ all.sent
  parts = take-append-drop read all.sent

  -- What is left is known.
  pub left_known : left.known ≡ true
  left_known = ap (λ (l : Left). l.known) reads.remains

  -- The messages that are left.
  remaining : left.messages ≡ more ++ all.rest
  remaining = messages_of reads.remains

  -- All is in turn, by what is held.
  pub whole_turn : AreInTurn (length own.harts) [] (some ++ more)
  whole_turn =
      subst (λ n. AreInTurn n [] (some ++ more)) (sym reads.harts)
      (subst (λ l. AreInTurn all.harts [] l) (sym parts) right.in_turn)

  -- The next message that is left is the next one of SENT, if it may follow those that were read.
  pub next_sent : (message : Message) (after : Left) → left ≡ left_with message after
      → misplaced all.harts some message ≡ None
      → (slice_get all.sent read ≡ Some message) × (after ≡ left_after all (read + 1))
  next_sent message after is placed = go (cases_lt read (length all.sent))
    where
      go : (read < length all.sent) ⊎ (length all.sent ≤ read)
          → (slice_get all.sent read ≡ Some message) × (after ≡ left_after all (read + 1))
      go (inl less) =
          let found = slice_get-some all.sent read less in
          let same : message ∷ after.messages ≡ found.0 ∷ (drop (suc read) all.sent ++ all.rest) =
          sym (messages_of is) ∙ remaining ∙ ap (λ l. l ++ all.rest) (drop_from all.sent read found.0 found.1) in
          let first : found.0 ≡ message = cc in
          let rest : after.messages ≡ drop (suc read) all.sent ++ all.rest = cc in
          let messages = rest ∙ ap (λ n. drop n all.sent ++ all.rest) (next_count read) in
          let ending = ap (λ (l : Left). l.ending) (sym is ∙ reads.remains) in
          let known = ap (λ (l : Left). l.known) (sym is ∙ reads.remains) in
          (found.1 ∙ ap Some first, λ i. record { known = known i; messages = messages i; ending = ending i })
      go (inr past) =
          let same : all.rest ≡ message ∷ after.messages =
          ap (λ l. l ++ all.rest) (sym (drop_all read all.sent past)) ∙ sym remaining ∙ messages_of is in
          absurd (subst (IsCut all.harts all.sent) same right.cut
          (ap (λ l. misplaced all.harts l message) (sym (take_all read all.sent past)) ∙ placed))

  -- Where nothing is left, SENT was read to its end.
  pub at_end : left.messages ≡ [] → read ≡ length all.sent
  at_end none = go (cases_lt read (length all.sent))
    where
      go : (read < length all.sent) ⊎ (length all.sent ≤ read) → read ≡ length all.sent
      go (inr past) = let within = reads.within in omega (arith, within, past)
      go (inl less) =
          let found = slice_get-some all.sent read less in
          let never : [] ≡ found.0 ∷ (drop (suc read) all.sent ++ all.rest) =
          sym none ∙ remaining ∙ ap (λ l. l ++ all.rest) (drop_from all.sent read found.0 found.1) in cc

  -- One message more was read.
  pub reads_more : (message : Message) (after : Left) (new : Holding) → slice_get all.sent read ≡ Some message
      → after ≡ left_after all (read + 1) → Holds (some ++ message ∷ []) came front new
      → new.window ≡ own.window → length new.harts ≡ length own.harts → new.by ≡ own.by
      → Reads all (read + 1) came front new after
  reads_more message after new at is holds same_window same_harts same_by = record {
    holds =
        subst (λ l. Holds l came front new)
        (sym (take_to all.sent read message at) ∙ ap (λ n. take n all.sent) (next_count read)) holds;
    within = let within = slice_get_within all.sent read message at in omega (arith, within);
    remains = is;
    harts = same_harts ∙ reads.harts;
    window = same_window ∙ reads.window;
    by = same_by ∙ reads.by;
  }

  -- A message that is refused is what follows SENT, or has the last number.
  pub refused_next : (message : Message) (after : Left) → left ≡ left_with message after → (why : ReadFault)
      → refusal_by (slice_get own.harts message.hart) message.number ≡ Some why → IsLookFault all read (look.Sent why)
  refused_next message after is why refusal =
      by_cause (why_refused some came front own reads.holds message why refusal)
    where
      misplaced_one : (cause : DemuxFault) → misplaced (length own.harts) some message ≡ Some cause
          → (read < length all.sent) ⊎ (length all.sent ≤ read)
          → (read ≡ length all.sent) × BeginsMisplaced all.harts all.sent all.rest cause
      misplaced_one cause at (inl less) =
          let found = slice_get-some all.sent read less in
          let same : message ∷ after.messages ≡ found.0 ∷ (drop (suc read) all.sent ++ all.rest) =
          sym (messages_of is) ∙ remaining ∙ ap (λ l. l ++ all.rest) (drop_from all.sent read found.0 found.1) in
          let first : found.0 ≡ message = cc in
          let never : None ≡ Some cause =
          sym (placed_at all.harts [] all.sent right.in_turn read found.0 found.1)
          ∙ ap (misplaced all.harts some) first
          ∙ ap (λ n. misplaced n some message) (sym reads.harts)
          ∙ at in cc
      misplaced_one cause at (inr past) =
          let same : all.rest ≡ message ∷ after.messages =
          ap (λ l. l ++ all.rest) (sym (drop_all read all.sent past)) ∙ sym remaining ∙ messages_of is in (
            (let within = reads.within in omega (arith, within, past)),
            subst (λ l. BeginsMisplaced all.harts all.sent l cause) (sym same)
                (ap (λ l. misplaced all.harts l message) (sym (take_all read all.sent past))
                ∙ ap (λ n. misplaced n some message) (sym reads.harts) ∙ at),
          )

      by_cause : ((cause : DemuxFault) × (why ≡ fault.Misplaced cause) × (misplaced (length own.harts) some message ≡ Some cause))
          ⊎ ((why ≡ fault.Full) × (message.number ≡ 2 ^ 64 - 1) × (misplaced (length own.harts) some message ≡ None))
          → IsLookFault all read (look.Sent why)
      by_cause (inl one) =
          subst (λ w. IsLookFault all read (look.Sent w)) (sym one.1)
          (misplaced_one one.0 one.2 (cases_lt read (length all.sent)))
      by_cause (inr last) =
          subst (λ w. IsLookFault all read (look.Sent w)) (sym last.0)
          (ap (option_map (λ (m : Message). m.number))
          (next_sent message after is (ap (λ n. misplaced n some message) (sym reads.harts) ∙ last.2)).0
          ∙ ap Some last.1)

  -- A message that is not refused is read, where there is a place.
  pub never_refused : (message : Message) (why : ReadFault) → read < front + all.window
      → refusal_by (slice_get own.harts message.hart) message.number ≡ None
      → IsReadFault (length own.harts) own.window some front message why → ⊥
  never_refused message fault.Full place none (inl full) =
      let count = length-take read all.sent in
      let within = reads.within in
      let window = reads.window in
      omega (arith, place, full, count, within, window)
  never_refused message fault.Full place none (inr last) = not_last some came front own reads.holds message none last.0
  never_refused message (fault.Misplaced why) place none misplaced_is =
      let never : None ≡ Some why = sym (placed_if some came front own reads.holds message none) ∙ misplaced_is.0 in cc

  -- What is wanted has a place.
  pub wanted_place : (hart number : ℕ) → is_wanted (length own.harts) own.window some front hart number ≡ true
      → read < front + all.window
  wanted_place hart number is =
      let parts = and_parts (ltb hart (length own.harts))
      (not (ltb number (length (of_hart hart some)))
      && ltb (number - length (of_hart hart some)) (front + own.window - length some)) is in
      let near = and_parts (not (ltb number (length (of_hart hart some))))
      (ltb (number - length (of_hart hart some)) (front + own.window - length some)) parts.1 in
      let less = ltb-true (number - length (of_hart hart some)) (front + own.window - length some) near.1 in
      let count = length-take read all.sent in
      let within = reads.within in
      let window = reads.window in
      omega (arith, less, count, within, window)

  -- One more message was wanted.
  pub wanted_more : (first hart number : ℕ) → AllWanted all first read front hart number
      → is_wanted (length own.harts) own.window some front hart number ≡ true
      → AllWanted all first (read + 1) front hart number
  wanted_more first hart number before is k from below = go (cases_lt k read)
    where
      go : (k < read) ⊎ (read ≤ k) → is_wanted all.harts all.window (take k all.sent) front hart number ≡ true
      go (inl less) = before k from less
      go (inr past) =
          ap (λ n. is_wanted all.harts all.window (take n all.sent) front hart number)
          (let same : k ≡ read = omega (arith, past, below) in same)
          ∙ ap (λ n. is_wanted n all.window some front hart number) (sym reads.harts)
          ∙ ap (λ w. is_wanted (length own.harts) w some front hart number) (sym reads.window)
          ∙ is

  -- What is wanted is asked for: SENT's next message, or, at its end, none.
  module _ (hart number : ℕ) (wanted : is_wanted (length own.harts) own.window some front hart number ≡ true) where
    wants : is_wanted all.harts all.window some front hart number ≡ true
    wants =
        ap (λ n. is_wanted n all.window some front hart number) (sym reads.harts)
        ∙ ap (λ w. is_wanted (length own.harts) w some front hart number) (sym reads.window)
        ∙ wanted

    pub asked_some : read < looked_to all front hart number read
    asked_some =
        let some_asked = asks_some all.harts all.window front hart number some more wants in
        omega (arith, some_asked)

    pub asked_next : read + 1 ≤ length all.sent
        → looked_to all front hart number read ≡ looked_to all front hart number (read + 1)
    asked_next less =
        let found = slice_get-some all.sent read (omega (arith, less)) in
        let one : suc read ≡ read + 1 = omega arith in
        let asks =
        ap (asked_for all.harts all.window front hart number some) (drop_from all.sent read found.0 found.1)
        ∙ ap (λ b. cond b (1 + asked_for all.harts all.window front hart number (some ++ found.0 ∷ []) (drop (suc read) all.sent)) 0)
        wants
        ∙ ap (λ n. 1 + n)
        (ap₂ (asked_for all.harts all.window front hart number)
        (sym (take_to all.sent read found.0 found.1) ∙ ap (λ n. take n all.sent) one)
        (ap (λ n. drop n all.sent) one)) in
        omega (arith, asks)

    pub asked_end : read ≡ length all.sent → looked_to all front hart number read ≡ read + 1
    asked_end end =
        let asks =
        ap (asked_for all.harts all.window front hart number some) (drop_all read all.sent (omega (arith, end)))
        ∙ ap (λ b. cond b 1 0) wants in
        omega (arith, asks)

  -- Where SENT is at its end, nothing follows.
  pub looked_end : (first hart number : ℕ) (after : Left) (new : Holding) → Reads all read came front new after
      → read ≡ length all.sent → first ≤ read → AllWanted all first read front hart number
      → looked_to all front hart number first ≡ read + 1 → EndsWell all
      → IsLooked all first came front hart number new after
  looked_end first hart number after new same end more wanted asked well = record {
    read = read;
    reads = same;
    more = more;
    wanted = wanted;
    was = record { count = omega (arith, asked, end); ended = λ past. well };
    settled =
        ap (λ l. standing_of all.window l front hart number) (take_all read all.sent (omega (arith, end)));
  }

  -- Where a message is that is not wanted does not depend on what follows.
  pub looked_at : (first hart number : ℕ)
      → standing_of own.window (some ++ more) front hart number ≡ standing_of own.window some front hart number
      → first ≤ read → AllWanted all first read front hart number
      → looked_to all front hart number first ≡ looked_to all front hart number read
      → is_wanted (length own.harts) own.window some front hart number ≡ false
      → IsLooked all first came front hart number own left
  looked_at first hart number same later wanted asked none = record {
    read = read;
    reads = reads;
    more = later;
    wanted = wanted;
    was = was_read (asked ∙ asked_none);
    settled =
        ap (λ w. standing_of w some front hart number) (sym reads.window)
        ∙ sym same
        ∙ ap (λ l. standing_of own.window l front hart number) parts
        ∙ ap (λ w. standing_of w all.sent front hart number) reads.window;
  }
    where
      asked_none : looked_to all front hart number read ≡ read
      asked_none =
          let asks =
          asks_none all.harts all.window front hart number some more
          (ap (λ n. is_wanted n all.window some front hart number) (sym reads.harts)
          ∙ ap (λ w. is_wanted (length own.harts) w some front hart number) (sym reads.window) ∙ none) in
          omega (arith, asks)

      was_read : {asked : ℕ} → asked ≡ read → WasAsked all asked read
      was_read is = subst (λ n. WasAsked all n read) (sym is) (asked_read all read reads.within)

-- SENT was asked as often, where so many messages of it were read before.
module _ (all : Audited) (asked read : ℕ) (was : WasAsked all asked read) (front hart number : ℕ) where
  asks_same : asked_for all.harts all.window front hart number (take asked all.sent) (drop asked all.sent)
      ≡ asked_for all.harts all.window front hart number (take read all.sent) (drop read all.sent)
  asks_same = go (cases_lt (length all.sent) asked)
    where
      go : (length all.sent < asked) ⊎ (asked ≤ length all.sent)
          → asked_for all.harts all.window front hart number (take asked all.sent) (drop asked all.sent)
          ≡ asked_for all.harts all.window front hart number (take read all.sent) (drop read all.sent)
      go (inl past) =
          let now = was.count in
          let end : length all.sent ≤ read = omega (arith, now, past) in
          ap₂ (asked_for all.harts all.window front hart number)
          (take_all asked all.sent (omega (arith, past)) ∙ sym (take_all read all.sent end))
          (drop_all asked all.sent (omega (arith, past)) ∙ sym (drop_all read all.sent end))
      go (inr within) =
          let now = was.count in
          let same : asked ≡ read = omega (arith, now, within) in
          ap (λ n. asked_for all.harts all.window front hart number (take n all.sent) (drop n all.sent)) same

  pub looked_again : (to : ℕ) → WasAsked all (looked_to all front hart number read) to
      → WasAsked all (looked_to all front hart number asked) to
  looked_again to new = record {
    count = let before = was.count in let same = asks_same in let after = new.count in omega (arith, before, same, after);
    ended = λ past. go past (cases_lt (length all.sent) asked);
  }
    where
      go : length all.sent < looked_to all front hart number asked
          → (length all.sent < asked) ⊎ (asked ≤ length all.sent) → EndsWell all
      go past (inl ended) = was.ended ended
      go past (inr within) =
          new.ended (let before = was.count in let same = asks_same in omega (arith, before, same, past, within))

  pub fails_again : (why : LookFault) (left : Left) → FailsAt all read (looked_to all front hart number read) why left
      → FailsAt all asked (looked_to all front hart number asked) why left
  fails_again why left fails = record {
    asked = fails.asked + (asked - read);
    more = let more = fails.more in let before = was.count in omega (arith, more, before);
    less = let less = fails.less in let before = was.count in let same = asks_same in omega (arith, less, before, same);
    read = fails.read;
    was = record {
      count =
          let own = fails.was.count in let before = was.count in let more = fails.more in omega (arith, own, before, more);
      ended = λ past. go past (cases_lt (length all.sent) asked);
    };
    fault = fails.fault;
    remains = fails.remains;
  }
    where
      go : length all.sent < fails.asked + (asked - read)
          → (length all.sent < asked) ⊎ (asked ≤ length all.sent) → EndsWell all
      go past (inl ended) = was.ended ended
      go past (inr within) =
          fails.was.ended (let before = was.count in omega (arith, before, past, within))

-- A message more is asked for, or none.
pub looked_later : (all : Audited) (front hart number asked : ℕ) → asked ≤ looked_to all front hart number asked
looked_later all front hart number asked = omega arith

-- It fails where it was asked more often before, or up to where it is asked more often.
abbrev pub fails_later : (all : Audited) (from later to : ℕ) (why : LookFault) (left : Left) → from ≤ later
    → FailsAt all later to why left → FailsAt all from to why left
fails_later all from later to why left after fails = record {
  asked = fails.asked;
  more = let own = fails.more in omega (arith, own, after);
  less = fails.less;
  read = fails.read;
  was = fails.was;
  fault = fails.fault;
  remains = fails.remains;
}

abbrev pub fails_sooner : (all : Audited) (from sooner to : ℕ) (why : LookFault) (left : Left) → sooner ≤ to
    → FailsAt all from sooner why left → FailsAt all from to why left
fails_sooner all from sooner to why left before fails = record {
  asked = fails.asked;
  more = fails.more;
  less = let own = fails.less in omega (arith, own, before);
  read = fails.read;
  was = fails.was;
  fault = fails.fault;
  remains = fails.remains;
}

pub fails_either : (all : Audited) (from once twice : ℕ) (is : Bool) (why : LookFault) (left : Left) → once ≤ twice
    → FailsAt all from once why left → FailsAt all from (cond is twice once) why left
fails_either all from once twice true why left before fails = fails_sooner all from once twice why left before fails
fails_either all from once twice false why left before fails = fails
