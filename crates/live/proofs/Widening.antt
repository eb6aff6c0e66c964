-- What is known of the messages of SENT that were read, of all of them.
use Rattle.std.proofs.Common.{◌≡◌, ℕ, zero, suc, ◌+◌, ◌<◌, ◌≤◌, ◌||◌, Bool, true, false, cond, not, List, [], ◌∷◌, ◌++◌}
use Rattle.std.proofs.Common.{Option, Some, None, drop, length, map, slice_get, take, refl, sym, ap, subst, ◌∙◌, arith}
use Rattle.std.specs.Prelude.{option_map}
use Rattle.std.proofs.lemmas.Bool.{and_from, eq-eqb, false_from_ne_true}
use Rattle.std.proofs.lemmas.List.{append-nil, append_assoc, length-take, map-append, take-append-drop, take-take, take_all}
use Rattle.std.proofs.lemmas.List.Folds.{list_any-append}
use Rattle.message.specs.OfHart.{of_hart}
use Rattle.message.specs.declared.message.Message.{Message}
use Rattle.auditing.proofs.Appending.{or_false}
use Rattle.auditing.proofs.KnownLemmas.{known-turn}
use Rattle.auditing.proofs.SentLemmas.{next_of_hart}
use Rattle.auditing.specs.Fates.{has_greater, has_number, is_numbered, is_true, true_ones}
use Rattle.auditing.specs.Findings.{finding_by, finding_of, greatest_number}
use Rattle.auditing.specs.Known.{known_all, known_one}
use Rattle.auditing.specs.Sent.{AreInTurn}
use Rattle.auditing.specs.declared.fate.Fate.TheVariants as fate
use Rattle.auditing.specs.declared.finding.Finding.{Finding}
use Rattle.auditing.specs.declared.finding.Finding.TheVariants as finding
use Rattle.live.specs.Compared.{changed_from, known_finding, known_trues}
use Rattle.live.specs.Auditing.{LiveHolding, Stands}
use Rattle.live.specs.Following.{Audited, IsAudited, IsLooked, Left, Reads}
use Rattle.live.specs.Holding.{Holding}
use Rattle.live.specs.Holds.{AreRead}
use Rattle.live.specs.Live.{State, held, last_held}
use Rattle.live.specs.View.{given_up, in_view, is_below, standing_from, standing_of}
use Rattle.live.specs.declared.standing.Standing.TheVariants as standing
use Rattle.live.specs.steps.Searching.{is_slot}
use Rattle.live.proofs.InView.{found, in_sent, payload_at, payload_is}
use Rattle.live.proofs.Judging.{slice_get-drop, stands_where}
use Rattle.live.proofs.Known.{known_low, known_read}
use Rattle.live.proofs.Passing.{numbered_at, take_to}
use Rattle.live.proofs.Reading.{counts_more, still_read, true_same, trues_same}
use Rattle.live.proofs.Standings.{is_one, no_fewer, numbered_is, turns_split}
use Rattle.live.proofs.Views.{at_place}

-- A message is of its hart and has its number.
own_numbered : (message : Message) → is_numbered message.hart message.number message ≡ true
own_numbered message =
    and_from _ _ (eq-eqb message.hart message.hart refl) (eq-eqb message.number message.number refl)

-- More of the first messages have no fewer of a hart.
pub taken_fewer : (hart : ℕ) (messages : List Message) (first last : ℕ) → first ≤ last
    → length (of_hart hart (take first messages)) ≤ length (of_hart hart (take last messages))
taken_fewer hart messages first last later =
    let fewer = no_fewer hart (take first (take last messages)) (drop first (take last messages)) in
    let whole = ap (λ l. length (of_hart hart l)) (take-append-drop first (take last messages)) in
    let same = ap (λ l. length (of_hart hart l)) (take-take first last messages later) in
    omega (arith, fewer, whole, same)

-- A message among the first ones.
pub get_taken : (messages : List Message) (count k : ℕ) → k < count
    → slice_get (take count messages) k ≡ slice_get messages k
get_taken messages zero k less = absurd (omega (arith, less))
get_taken [] (suc count) k less = refl
get_taken (first ∷ messages) (suc count) zero less = refl
get_taken (first ∷ messages) (suc count) (suc k) less = get_taken messages count k (omega (arith, less))

-- The number of a message that was read is below how many of its hart were read.
pub read_number : (harts : ℕ) (sent : List Message) → AreInTurn harts [] sent → (read k : ℕ) → k < read
    → (message : Message) → slice_get sent k ≡ Some message
    → message.number < length (of_hart message.hart (take read sent))
read_number harts sent turn read k less message is =
    let number = numbered_at harts [] sent turn k message is in
    let more = counts_more (take k sent) message in
    let next = ap (λ l. length (of_hart message.hart l)) (take_to sent k message is) in
    let all = taken_fewer message.hart sent (suc k) read (omega (arith, less)) in
    omega (arith, number, more, next, all)

-- There is a message, of this hart and with this number.
pub one_is : (hart number : ℕ) (slot : Option Message) → is_one hart number slot ≡ true
    → (message : Message) × (slot ≡ Some message) × (is_numbered hart number message ≡ true)
one_is hart number None is = cc
one_is hart number (Some message) is = (message, refl, is)

-- A message at a place is one of so many.
within_at : (messages : List Message) (k : ℕ) (message : Message) → slice_get messages k ≡ Some message
    → k < length messages
within_at [] k message is = cc
within_at (first ∷ messages) zero message is = omega arith
within_at (first ∷ messages) (suc k) message is =
    let less = within_at messages k message is in
    omega (arith, less)

-- A number that is in view is of a message up to the end of the view.
pub in_view_seen : (window : ℕ) (sent : List Message) (harts : ℕ) → AreInTurn harts [] sent → (front hart number place : ℕ)
    → standing_of window sent front hart number ≡ standing.At place
    → number < length (of_hart hart (take (front + window) sent))
in_view_seen window sent harts turn front hart number place is =
    by_tests (is_below window sent front hart number) is
  where
    seen : List Message
    seen = take (front + window) sent

    split : AreInTurn harts [] seen × AreInTurn harts seen (drop (front + window) sent)
    split =
        turns_split harts [] seen (drop (front + window) sent)
        (subst (λ l. AreInTurn harts [] l) (sym (take-append-drop (front + window) sent)) turn)

    viewed : standing_from 0 (in_view window sent front) hart number ≡ standing.At place → number < length (of_hart hart seen)
    viewed at =
        let found = stands_where (in_view window sent front) 0 hart number place at in
        let one = one_is hart number (slice_get (in_view window sent front) found.0) found.2 in
        let there = sym (slice_get-drop seen (given_up window front) found.0) ∙ one.1 in
        let within = within_at seen (given_up window front + found.0) one.0 there in
        let low = read_number harts seen split.0 (length seen) (given_up window front + found.0) within one.0 there in
        let its = numbered_is hart number one.0 one.2 in
        let all = ap (λ l. length (of_hart one.0.hart l)) (take_all (length seen) seen (omega arith)) in
        let count = ap (λ h. length (of_hart h seen)) its.0 in
        let same = its.1 in
        omega (arith, low, all, count, same)

    by_tests : (low : Bool)
        → cond low standing.Below (standing_from 0 (in_view window sent front) hart number) ≡ standing.At place
        → number < length (of_hart hart seen)
    by_tests true at = cc
    by_tests false at = viewed at

-- So it was read.
pub in_view_read : (window : ℕ) (sent : List Message) (harts : ℕ) → AreInTurn harts [] sent → (front hart number place : ℕ)
    → standing_of window sent front hart number ≡ standing.At place → number < length (of_hart hart sent)
in_view_read window sent harts turn front hart number place is =
    let seen = in_view_seen window sent harts turn front hart number place is in
    let fewer = no_fewer hart (take (front + window) sent) (drop (front + window) sent) in
    let whole = ap (λ l. length (of_hart hart l)) (take-append-drop (front + window) sent) in
    omega (arith, seen, fewer, whole)

-- A place in view is below how many were read.
pub in_view_within : (window : ℕ) (sent : List Message) (front hart number place : ℕ)
    → standing_of window sent front hart number ≡ standing.At place → given_up window front + place < length sent
in_view_within window sent front hart number place is = by_tests (is_below window sent front hart number) is
  where
    seen : List Message
    seen = take (front + window) sent

    viewed : standing_from 0 (in_view window sent front) hart number ≡ standing.At place
        → given_up window front + place < length sent
    viewed at =
        let found = stands_where (in_view window sent front) 0 hart number place at in
        let one = one_is hart number (slice_get (in_view window sent front) found.0) found.2 in
        let there = sym (slice_get-drop seen (given_up window front) found.0) ∙ one.1 in
        let within = within_at seen (given_up window front + found.0) one.0 there in
        let same = found.1 in
        let taken = length-take (front + window) sent in
        omega (arith, within, same, taken)

    by_tests : (low : Bool)
        → cond low standing.Below (standing_from 0 (in_view window sent front) hart number) ≡ standing.At place
        → given_up window front + place < length sent
    by_tests true at = cc
    by_tests false at = viewed at

-- A number that was read stays read.
still_low : (before : List Message) (message : Message) (hart number : ℕ) → number < length (of_hart hart before)
    → number < length (of_hart hart (before ++ message ∷ []))
still_low before message hart number low =
    let more = no_fewer hart before (message ∷ []) in
    omega (arith, low, more)

-- One message more changes nothing of a number that was read.
number_same : (harts : ℕ) (before : List Message) (message : Message)
    → message.number ≡ length (of_hart message.hart before) → (hart number : ℕ) → number < length (of_hart hart before)
    → has_number (before ++ message ∷ []) hart number ≡ has_number before hart number
number_same harts before message next hart number low =
    list_any-append (is_numbered hart number) before (message ∷ [])
    ∙ ap (λ b. has_number before hart number || b)
    (or_false (is_numbered hart number message)
    ∙ false_from_ne_true (is_numbered hart number message) (λ is.
    let its = numbered_is hart number message is in
    let count = ap (λ h. length (of_hart h before)) its.0 in
    let same = its.1 in
    omega (arith, next, count, same, low)))
    ∙ or_false (has_number before hart number)

-- Of a message whose number was read the same is known after more.
wide_number : (harts : ℕ) (before more : List Message) → AreInTurn harts before more → (hart number : ℕ)
    → number < length (of_hart hart before) → has_number (before ++ more) hart number ≡ has_number before hart number
wide_number harts before [] turn hart number low = ap (λ l. has_number l hart number) (append-nil before)
wide_number harts before (message ∷ more) turn hart number low =
    ap (λ l. has_number l hart number) (sym (append_assoc before (message ∷ []) more))
    ∙ wide_number harts (before ++ message ∷ []) more turn.1 hart number (still_low before message hart number low)
    ∙ number_same harts before message (next_of_hart harts before message turn.0).1 hart number low

wide_true : (harts : ℕ) (before more : List Message) → AreInTurn harts before more → (one : Message)
    → one.number < length (of_hart one.hart before) → is_true (before ++ more) one ≡ is_true before one
wide_true harts before [] turn one low = ap (λ l. is_true l one) (append-nil before)
wide_true harts before (message ∷ more) turn one low =
    ap (λ l. is_true l one) (sym (append_assoc before (message ∷ []) more))
    ∙ wide_true harts (before ++ message ∷ []) more turn.1 one (still_low before message one.hart one.number low)
    ∙ true_same before message (next_of_hart harts before message turn.0).1 one low

wide_came : (harts : ℕ) (before more : List Message) → AreInTurn harts before more → (came : List Message)
    → AreRead before came → true_ones (before ++ more) came ≡ true_ones before came
wide_came harts before [] turn came read = ap (λ l. true_ones l came) (append-nil before)
wide_came harts before (message ∷ more) turn came read =
    let next = (next_of_hart harts before message turn.0).1 in
    ap (λ l. true_ones l came) (sym (append_assoc before (message ∷ []) more))
    ∙ wide_came harts (before ++ message ∷ []) more turn.1 came (still_read before message next came read)
    ∙ trues_same before message next came read

-- What is found by more messages, where these three are the same.
same_finding : (sent other came : List Message) (message : Message)
    → has_number sent message.hart message.number ≡ has_number other message.hart message.number
    → is_true sent message ≡ is_true other message → true_ones sent came ≡ true_ones other came
    → finding_of sent came message ≡ finding_of other came message
same_finding sent other came message known true_too trues = (λ i.
    finding_by
    (cond (not (known i)) fate.Stranger
    (cond (not (true_too i)) fate.Changed
    (cond (has_number (trues i) message.hart message.number) fate.Repeat
    (cond (has_greater (trues i) message.hart message.number) fate.Late fate.InOrder))))
    (greatest_number (trues i) message.hart) message.number)

module _ (all : Audited) (right : IsAudited all) (read : ℕ) (came : List Message) (front : ℕ) (own : Holding)
    (left : Left) (reads : Reads all read came front own left) where
  abbrev some : List Message
  some = take read all.sent

  parts : some ++ drop read all.sent ≡ all.sent
  parts = take-append-drop read all.sent

  turn : AreInTurn all.harts some (drop read all.sent)
  turn =
      (turns_split all.harts [] some (drop read all.sent)
      (subst (λ l. AreInTurn all.harts [] l) (sym parts) right.in_turn)).1

  -- The same, as payloads are compared.
  abbrev known : List Message → List Message
  known = known_all own.by

  known_parts : known some ++ known (drop read all.sent) ≡ known all.sent
  known_parts = sym (map-append (known_one own.by) some (drop read all.sent)) ∙ ap known parts

  turn_known : AreInTurn all.harts (known some) (known (drop read all.sent))
  turn_known = known-turn own.by all.harts some (drop read all.sent) turn

  -- The true ones of those that came are so by all of SENT.
  pub wide_trues : known_trues own.by all.sent came ≡ known_trues own.by (take read all.sent) came
  wide_trues =
      ap (λ l. true_ones l (known came)) (sym known_parts)
      ∙ wide_came all.harts (known some) (known (drop read all.sent)) turn_known (known came)
      (known_read own.by some came reads.holds.came_read)

  -- What is found of a message whose number was read is found by all of SENT.
  pub wide_finding : (message : Message) → message.number < length (of_hart message.hart (take read all.sent))
      → known_finding own.by all.sent came message ≡ known_finding own.by (take read all.sent) came message
  wide_finding message low =
      same_finding (known all.sent) (known some) (known came) (known_one own.by message)
      (ap (λ l. has_number l message.hart message.number) (sym known_parts)
      ∙ wide_number all.harts (known some) (known (drop read all.sent)) turn_known message.hart message.number known_low_one)
      (ap (λ l. is_true l (known_one own.by message)) (sym known_parts)
      ∙ wide_true all.harts (known some) (known (drop read all.sent)) turn_known (known_one own.by message) known_low_one)
      wide_trues
    where
      known_low_one : message.number < length (of_hart message.hart (known some))
      known_low_one = known_low own.by some message.hart message.number low

  -- The payload that SENT has of a message in view.
  pub wide_changed : (message : Message) (place : ℕ)
      → standing_of own.window (take read all.sent) front message.hart message.number ≡ standing.At place
      → (finding : Finding) → changed_from (take read all.sent) message finding ≡ changed_from all.sent message finding
  wide_changed message place at finding.Changed =
      payload_is some came front own reads.holds message place at
      ∙ sym (payload_at all.harts [] all.sent right.in_turn message.hart message.number (given_up own.window front + place)
      one.0 there one.2)
    where
      one : (one : Message) × (slice_get (drop (given_up own.window front) some) place ≡ Some one)
          × (is_numbered message.hart message.number one ≡ true)
      one = found some came front own reads.holds message place at

      there : slice_get all.sent (given_up own.window front + place) ≡ Some one.0
      there =
          sym (get_taken all.sent read (given_up own.window front + place)
          (let less = in_view_within own.window some front message.hart message.number place at in
          let count = length-take read all.sent in omega (arith, less, count)))
          ∙ in_sent some came front own reads.holds message place at
  wide_changed message place at finding.Stranger = refl
  wide_changed message place at finding.Repeat = refl
  wide_changed message place at (finding.Late by) = refl
  wide_changed message place at (finding.InOrder skips) = refl

  -- The last of so many messages that were read, by all of SENT.
  pub wide_last : (count : ℕ) → count ≤ read
      → last_held own.by came all.sent count ≡ last_held own.by came (take read all.sent) count
  wide_last zero within = refl
  wide_last (suc place) within =
      ap (λ t. option_map (held t) (slice_get all.sent place)) wide_trues
      ∙ ap (option_map (held (known_trues own.by some came))) (sym (get_taken all.sent read place (omega (arith, within))))

-- By what payloads are compared.
pub by_is : (all : Audited) (read : ℕ) (state : State) (own : LiveHolding) (left : Left) → Stands all read state own left
    → own.window.by ≡ state.by
by_is all read state own left stands = stands.reads.by ∙ sym stands.by

-- A message that is held.
held_get : (trues messages : List Message) (k : ℕ) (message : Message) → slice_get messages k ≡ Some message
    → slice_get (map (held trues) messages) k ≡ Some (held trues message)
held_get trues [] k message is = cc
held_get trues (first ∷ messages) zero message is =
    let same : first ≡ message = cc in ap (λ m. Some (held trues m)) same
held_get trues (first ∷ messages) (suc k) message is = held_get trues messages k message is

-- The next message of SENT is held after the front, and it is in view there.
module _ (all : Audited) (right : IsAudited all) (read : ℕ) (state : State) (own : LiveHolding) (left : Left)
    (stands : Stands all read state own left) (message : Message) (before : state.front < read)
    (is : slice_get all.sent state.front ≡ Some message) where
  abbrev gone : ℕ
  gone = given_up own.window.window state.front

  front_at : slice_get (take read all.sent) (gone + own.window.near) ≡ Some message
  front_at =
      ap (slice_get (take read all.sent)) stands.reads.holds.near ∙ get_taken all.sent read state.front before ∙ is

  front_some : slice_get own.window.slots own.window.near
      ≡ Some (held (known_trues own.window.by (take read all.sent) state.came) message)
  front_some =
      ap (λ l. slice_get l own.window.near) stands.reads.holds.slots
      ∙ held_get (known_trues own.window.by (take read all.sent) state.came) (drop gone (take read all.sent)) own.window.near message
      (slice_get-drop (take read all.sent) gone own.window.near ∙ front_at)

  pub front_held : slice_get own.window.slots own.window.near
      ≡ Some (held (known_trues state.by all.sent state.came) message)
  front_held =
      front_some
      ∙ ap (λ t. Some (held t message)) (sym (wide_trues all right read state.came state.front own.window left stands.reads))
      ∙ ap (λ h. Some (held (known_trues h all.sent state.came) message)) (by_is all read state own left stands)

  pub front_stands : standing_of own.window.window (take read all.sent) state.front message.hart message.number
      ≡ standing.At own.window.near
  front_stands =
      sym (at_place (take read all.sent) state.came state.front own.window stands.reads.holds message.hart message.number
      high own.window.near (ap (is_slot message.hart message.number) front_some ∙ own_numbered message))
    where
      high : length (of_hart message.hart (take gone (take read all.sent))) ≤ message.number
      high =
          let number = numbered_at all.harts [] all.sent right.in_turn state.front message is in
          let near = stands.reads.holds.near in
          let fewer = taken_fewer message.hart all.sent gone state.front (omega (arith, near)) in
          let same = ap (λ l. length (of_hart message.hart l))
          (take-take gone read all.sent (omega (arith, near, before))) in
          omega (arith, number, fewer, same)

-- The same waits, and the same runs go on, where other messages came, the front is elsewhere, or more was read.
pub stands_reads : (all : Audited) (read : ℕ) (state : State) (own : LiveHolding) (left : Left)
    → Stands all read state own left → (other : ℕ) (came : List Message) (front : ℕ) (window : Holding) (after : Left)
    → Reads all other came front window after
    → Stands all other (record state { came = came; front = front }) (record own { window = window }) after
stands_reads all read state own left stands other came front window after reads = record {
  reads = reads;
  waiting = stands.waiting;
  runs = stands.runs;
  by = stands.by;
  waits = stands.waits;
  counts = stands.counts;
  own_hart = stands.own_hart;
  some = stands.some;
  few = stands.few;
}

-- SENT was read to look a message up: the same is held, and where the message is does not depend on what follows.
pub stands_looked : (all : Audited) (read : ℕ) (state : State) (own : LiveHolding) (left : Left)
    → Stands all read state own left → (hart number : ℕ) (window : Holding) (after : Left)
    → (looked : IsLooked all read state.came state.front hart number window after)
    → Stands all looked.read state (record own { window = window }) after
stands_looked all read state own left stands hart number window after looked =
    stands_reads all read state own left stands looked.read state.came state.front window after looked.reads
