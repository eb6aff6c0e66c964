-- What is held after a message that is in view is taken.
use Rattle.std.proofs.Common.{◌≡◌, ◌≢◌, ◌⊎◌, inl, inr, ℕ, zero, suc, ◌+◌, ◌-◌, ◌<◌, ◌≤◌, Bool, true, false, cond, ltb}
use Rattle.std.proofs.Common.{not, List, [], ◌∷◌, ◌++◌, Option, Some, None, drop, length, map, set, slice_get, take}
use Rattle.std.proofs.Common.{refl, sym, ap, subst, ◌∙◌, arith}
use Rattle.std.specs.Prelude.{◌&&◌, max, option_map}
use Rattle.std.proofs.lemmas.Bool.{cases_eq, cases_lt, false_from_ne_true, le-ltb, lt-ltb}
use Rattle.std.proofs.lemmas.List.{append_assoc, length-set}
use Rattle.std.proofs.lemmas.List.Elements.{filter-append}
use Rattle.std.proofs.lemmas.Option.{slice_get-map}
use Rattle.payload.specs.Same.{same}
use Rattle.message.proofs.AcceptedLemmas.{slice_get-set}
use Rattle.message.proofs.Elements.{slice_get-some}
use Rattle.message.specs.OfHart.{of_hart}
use Rattle.message.specs.declared.message.Message.{Message}
use Rattle.auditing.proofs.Appending.{true_ones-same}
use Rattle.auditing.proofs.FindingLemmas.{finding_is, greatest_above, past-other, past-true}
use Rattle.auditing.proofs.KnownLemmas.{known-more, known-turn}
use Rattle.auditing.proofs.SentLemmas.{next_of_hart}
use Rattle.auditing.proofs.TakingLemmas.{chosen}
use Rattle.auditing.specs.Audits.{capped, number_after}
use Rattle.auditing.specs.Fates.{fate_of, has_number, is_numbered, is_same, is_true, true_ones}
use Rattle.auditing.specs.Findings.{greatest_number}
use Rattle.auditing.specs.Known.{known_all, known_one}
use Rattle.auditing.specs.Sent.{AreInTurn}
use Rattle.auditing.specs.SentPayload.{payload_sent}
use Rattle.auditing.specs.declared.fate.Fate.TheVariants as fate
use Rattle.auditing.specs.declared.finding.Finding.{Finding}
use Rattle.auditing.specs.steps.Taking.{finding_at}
use Rattle.live.specs.Compared.{known_finding, known_trues}
use Rattle.live.specs.Holding.{Holding}
use Rattle.live.specs.Holds.{AreNumbers, AreRead, Holds, came_by, judged_as, judged_by}
use Rattle.live.specs.Live.{held}
use Rattle.live.specs.View.{given_up, is_below, standing_from, standing_of, up_to}
use Rattle.live.specs.declared.numbers.Numbers.{Numbers}
use Rattle.live.specs.declared.held.SentMessage.{SentMessage}
use Rattle.live.specs.declared.standing.Standing.TheVariants as standing
use Rattle.live.specs.steps.Judging.{found_by, harts_new, mark_at, mark_by, slots_came, taken_by}
use Rattle.live.specs.steps.Searching.{is_at, is_slot}
use Rattle.live.proofs.Judging.{any_at, flags_stay, greater_past, marked, only_one, same_numbered, slice_get-drop, stands_where}
use Rattle.live.proofs.Judging.{within_harts}
use Rattle.live.proofs.Reading.{counts_more}
use Rattle.live.proofs.Standings.{is_one, no_fewer, none_again, numbered_is, one_more}
use Rattle.live.proofs.Views.{by_tests, turn}

-- A message that was read has a number below how many of its hart were read.
number_read : (harts : ℕ) (before messages : List Message) → AreInTurn harts before messages
    → (k : ℕ) (message : Message) → slice_get messages k ≡ Some message
    → message.number < length (of_hart message.hart (before ++ messages))
number_read harts before [] turn k message is = cc
number_read harts before (first ∷ messages) turn zero message is =
    let same : first ≡ message = cc in
    let next = (next_of_hart harts before first turn.0).1 in
    let one = counts_more before first in
    let more = no_fewer first.hart (before ++ first ∷ []) messages in
    let whole = ap (λ l. length (of_hart first.hart l)) (append_assoc before (first ∷ []) messages) in
    subst (λ (m : Message). m.number < length (of_hart m.hart (before ++ first ∷ messages))) same
    (omega (arith, next, one, more, whole))
number_read harts before (first ∷ messages) turn (suc k) message is =
    subst (λ l. message.number < length (of_hart message.hart l)) (append_assoc before (first ∷ []) messages)
    (number_read harts (before ++ first ∷ []) messages turn.1 k message is)

-- One more message with a number that was read.
read_push : (sent came : List Message) (message : Message) → AreRead sent came
    → message.number < length (of_hart message.hart sent) → AreRead sent (came ++ message ∷ [])
read_push sent [] message read low = (low, tt)
read_push sent (one ∷ came) message read low = (read.0, read_push sent came message read.1 low)

-- What is found, by the tests.
found_cases : (same again : Bool) (own : Numbers) (number : ℕ)
    → found_by (cond (not same) fate.Changed (cond again fate.Repeat fate.InOrder)) (Some own) number
    ≡ finding_at (chosen true same again (ltb number (own.past - 1))) own.past number
found_cases false again own number = refl
found_cases true true own number = refl
found_cases true false own number = refl

-- A number is below another one less 1 where the number after it is below that.
one_less : (number past : ℕ) → ltb (number + 1) past ≡ ltb number (past - 1)
one_less number past = go (cases_lt (number + 1) past)
  where
    go : (number + 1 < past) ⊎ (past ≤ number + 1) → ltb (number + 1) past ≡ ltb number (past - 1)
    go (inl low) = lt-ltb (number + 1) past low ∙ sym (lt-ltb number (past - 1) (omega (arith, low)))
    go (inr high) = le-ltb (number + 1) past high ∙ sym (le-ltb number (past - 1) (omega (arith, high)))

-- The payload of the message at a place, which has the number.
pub payload_at : (harts : ℕ) (before messages : List Message) → AreInTurn harts before messages → (hart number k : ℕ)
    (message : Message) → slice_get messages k ≡ Some message → is_numbered hart number message ≡ true
    → payload_sent messages hart number ≡ Some message.payload
payload_at harts before [] turn hart number k message is own = cc
payload_at harts before (first ∷ messages) turn hart number zero message is own =
    let same : first ≡ message = cc in
    ap (λ b. cond b (Some first.payload) (payload_sent messages hart number)) (ap (is_numbered hart number) same ∙ own)
    ∙ ap (λ (m : Message). Some m.payload) same
payload_at harts before (first ∷ messages) turn hart number (suc k) message is own =
    ap (λ b. cond b (Some first.payload) (payload_sent messages hart number))
    (false_from_ne_true (is_numbered hart number first) (λ here.
    none_again harts (before ++ first ∷ []) messages turn.1 hart number
    (let more = one_more harts before first hart number (next_of_hart harts before first turn.0).1 here in
    omega (arith, more)) k (ap (is_one hart number) is ∙ own)))
    ∙ payload_at harts (before ++ first ∷ []) messages turn.1 hart number k message is own

module _ (sent came : List Message) (front : ℕ) (own : Holding) (holds : Holds sent came front own) (message : Message)
    (place : ℕ) (stands : standing_of own.window sent front message.hart message.number ≡ standing.At place) where
  abbrev trues : List Message
  trues = known_trues own.by sent came

  abbrev more : List Message
  more = came ++ message ∷ []

  -- Messages as they are known.
  abbrev known_sent : List Message
  known_sent = known_all own.by sent

  abbrev known_came : List Message
  known_came = known_all own.by came

  abbrev own_known : Message
  own_known = known_one own.by message

  more_known : known_all own.by more ≡ known_came ++ own_known ∷ []
  more_known = known-more own.by came message

  abbrev gone : ℕ
  gone = given_up own.window front

  abbrev later : List Message
  later = drop gone sent

  -- The message of SENT that is there.
  pub found : (one : Message) × (slice_get later place ≡ Some one) × (is_numbered message.hart message.number one ≡ true)
  found =
      by_low (is_below own.window sent front message.hart message.number)
      (sym (by_tests sent came front own holds message.hart message.number
      (is_below own.window sent front message.hart message.number) refl) ∙ stands)
    where
      out : (o : Option Message) → slice_get later place ≡ o → is_one message.hart message.number o ≡ true
          → (one : Message) × (slice_get later place ≡ Some one)
          × (is_numbered message.hart message.number one ≡ true)
      out None at is = cc
      out (Some one) at is = (one, at, is)

      by_low : (low : Bool)
          → cond low standing.Below (standing_from 0 later message.hart message.number) ≡ standing.At place
          → (one : Message) × (slice_get later place ≡ Some one)
          × (is_numbered message.hart message.number one ≡ true)
      by_low true e = cc
      by_low false e =
          let at = stands_where later 0 message.hart message.number place e in
          out (slice_get later place) refl
          (ap (λ k. is_one message.hart message.number (slice_get later k))
          (let is = at.1 in let same : place ≡ at.0 = omega (arith, is) in same) ∙ at.2)

  abbrev one : Message
  one = found.0

  its : (one.hart ≡ message.hart) × (one.number ≡ message.number)
  its = numbered_is message.hart message.number one found.2

  pub in_sent : slice_get sent (gone + place) ≡ Some one
  in_sent = sym (slice_get-drop sent gone place) ∙ found.1

  pub slot_is : slice_get own.slots place ≡ Some (held trues one)
  slot_is =
      ap (λ l. slice_get l place) holds.slots
      ∙ slice_get-map (held trues) later place
      ∙ ap (option_map (held trues)) found.1

  in_known : slice_get known_sent (gone + place) ≡ Some (known_one own.by one)
  in_known = slice_get-map (known_one own.by) sent (gone + place) ∙ ap (option_map (known_one own.by)) in_sent

  -- The payload that SENT has.
  pub payload_is : payload_sent sent message.hart message.number ≡ Some one.payload
  payload_is =
      payload_at (length own.harts) [] sent holds.in_turn message.hart message.number (gone + place) one in_sent found.2

  known : has_number known_sent message.hart message.number ≡ true
  known =
      any_at (is_numbered message.hart message.number) known_sent (gone + place) (known_one own.by one) in_known found.2

  -- The payload that came is the one that was sent.
  abbrev equal : Bool
  equal = same own.by one.payload message.payload

  same_is : is_true known_sent own_known ≡ equal
  same_is =
      only_one (length own.harts) [] known_sent (known-turn own.by (length own.harts) [] sent holds.in_turn)
      (is_same own_known) message.hart message.number (same_numbered own_known) (gone + place) (known_one own.by one)
      in_known found.2
      ∙ ap (λ b. b && equal) found.2

  again : has_number trues message.hart message.number ≡ has_number trues one.hart one.number
  again =
      ap (λ h. has_number trues h message.number) (sym its.0) ∙ ap (λ n. has_number trues one.hart n) (sym its.1)

  low : message.number < length (of_hart message.hart sent)
  low =
      subst (λ h. message.number < length (of_hart h sent)) its.0
      (let read = number_read (length own.harts) [] sent holds.in_turn (gone + place) one in_sent in
      let number = its.1 in omega (arith, read, number))

  numbers : (own_ones : Numbers) × (slice_get own.harts message.hart ≡ Some own_ones)
  numbers =
      slice_get-some own.harts message.hart
      (subst (λ h. h < length own.harts) its.0
      (within_harts (length own.harts) [] sent holds.in_turn (gone + place) one in_sent))

  abbrev past : ℕ
  past = numbers.0.past

  past_is : past ≡ number_after (greatest_number trues message.hart)
  past_is = (holds.harts message.hart numbers.0 numbers.1).past

  fate_is : fate_of known_sent known_came own_known
      ≡ chosen true equal (has_number trues one.hart one.number)
      (ltb message.number (past - 1))
  fate_is = λ i. chosen (known i) (same_is i) (again i)
      ((greater_past trues message.hart message.number ∙ ap (ltb (message.number + 1)) (sym past_is)
      ∙ one_less message.number past) i)

  -- What is found of the message.
  pub finds : found_by (mark_at own place message.payload) (slice_get own.harts message.hart) message.number
      ≡ known_finding own.by sent came message
  finds =
      ap (λ o. found_by (mark_by own.by o message.payload) (slice_get own.harts message.hart) message.number) slot_is
      ∙ ap (λ o. found_by (mark_by own.by (Some (held trues one)) message.payload) o message.number) numbers.1
      ∙ found_cases equal (has_number trues one.hart one.number) numbers.0 message.number
      ∙ sym (finding_is known_sent known_came own_known
      (chosen true equal (has_number trues one.hart one.number)
      (ltb message.number (past - 1))) past fate_is past_is)

  -- What is held stays, where the flags and the greatest numbers do.
  stays : map (held (known_trues own.by sent more)) later ≡ map (held trues) later
      → ((hart : ℕ) → number_after (greatest_number (known_trues own.by sent more) hart) ≡ number_after (greatest_number trues hart))
      → Holds sent more front own
  stays flags pasts = record {
    slots = holds.slots ∙ sym flags;
    near = holds.near;
    read = holds.read;
    ahead = holds.ahead;
    in_turn = holds.in_turn;
    came_read = read_push sent came message holds.came_read low;
    few = holds.few;
    harts = λ hart other is. record {
      gone = (holds.harts hart other is).gone;
      read = (holds.harts hart other is).read;
      past = (holds.harts hart other is).past ∙ sym (pasts hart);
    };
  }

  -- A message that is not true changes nothing.
  untrue : equal ≡ false → Holds sent more front own
  untrue other =
      let trues_same =
      ap (true_ones known_sent) more_known ∙ true_ones-same known_sent known_came own_known (same_is ∙ other) in
      stays (ap (λ t. map (held t) later) trues_same)
      (λ hart. ap (λ t. number_after (greatest_number t hart)) trues_same)

  -- The true ones, with one that is true.
  true_more : equal ≡ true → known_trues own.by sent more ≡ trues ++ own_known ∷ []
  true_more is =
      ap (true_ones known_sent) more_known
      ∙ filter-append (is_true known_sent) known_came (own_known ∷ [])
      ∙ ap (λ t. trues ++ cond t (own_known ∷ []) []) (same_is ∙ is)

  -- The number after the greatest of another hart stays.
  past_beside : (hart : ℕ) → message.hart ≢ hart
      → greatest_number (known_trues own.by sent more) hart ≡ greatest_number trues hart
  past_beside hart other =
      ap (λ l. greatest_number (true_ones known_sent l) hart) more_known
      ∙ past-other known_sent known_came own_known hart other

  -- That of its hart is greater than its own.
  past_own : equal ≡ true → number_after (greatest_number (known_trues own.by sent more) message.hart)
      ≡ max (number_after (greatest_number trues message.hart)) (message.number + 1)
  past_own is =
      ap (λ l. number_after (greatest_number (true_ones known_sent l) message.hart)) more_known
      ∙ past-true known_sent known_came own_known (same_is ∙ is)

  -- The number after the greatest, with one that is true and has a number no greater.
  past_stays : equal ≡ true → message.number + 1 ≤ past → (hart : ℕ)
      → number_after (greatest_number (known_trues own.by sent more) hart) ≡ number_after (greatest_number trues hart)
  past_stays is below hart = go (cases_eq message.hart hart)
    where
      go : (message.hart ≡ hart) ⊎ (message.hart ≡ hart → ⊥)
          → number_after (greatest_number (known_trues own.by sent more) hart) ≡ number_after (greatest_number trues hart)
      go (inr other) = ap number_after (past_beside hart other)
      go (inl equal) =
          subst (λ h. number_after (greatest_number (known_trues own.by sent more) h) ≡ number_after (greatest_number trues h)) equal
          (past_own is
          ∙ (let now = past_is in omega (arith, now, below)))

  -- A repeat changes nothing.
  repeats : equal ≡ true → has_number trues one.hart one.number ≡ true
      → Holds sent more front own
  repeats is has =
      stays (ap (λ t. map (held t) later) (true_more is) ∙ flags_stay trues own_known (again ∙ has) later)
      (past_stays is
      (let above = greatest_above message.hart message.number trues (again ∙ has) in
      let now = past_is in omega (arith, above, now)))

  -- A new message sets its flag.
  slots_new : equal ≡ true
      → set own.slots place (record { message = one; came = true }) ≡ map (held (known_trues own.by sent more)) later
  slots_new is =
      ap (λ l. set l place (record { message = one; came = true })) holds.slots
      ∙ marked trues own_known (length own.harts) (take gone sent) later
      (turn sent came front own holds message.hart message.number) place one found.1 found.2
      ∙ ap (λ t. map (held t) later) (sym (true_more is))

  abbrev greater : Numbers
  greater = record numbers.0 { past = max past (capped (message.number + 1)) }

  -- The numbers of the harts, with a new message.
  numbers_new : equal ≡ true → (hart : ℕ) (other : Numbers)
      → slice_get (set own.harts message.hart greater) hart ≡ Some other
      → AreNumbers (take gone sent) sent (known_trues own.by sent more) hart other
  numbers_new is hart other at = go (slice_get-set own.harts message.hart greater hart other at)
    where
      go : ((message.hart ≡ hart) × (other ≡ greater)) ⊎ ((message.hart ≢ hart) × (slice_get own.harts hart ≡ Some other))
          → AreNumbers (take gone sent) sent (known_trues own.by sent more) hart other
      go (inr both) = record {
        gone = (holds.harts hart other both.1).gone;
        read = (holds.harts hart other both.1).read;
        past =
            (holds.harts hart other both.1).past
            ∙ sym (ap number_after (past_beside hart both.0));
      }
      go (inl both) = record {
        gone =
            ap (λ (n : Numbers). n.gone) both.1
            ∙ (holds.harts message.hart numbers.0 numbers.1).gone
            ∙ ap (λ h. length (of_hart h (take gone sent))) both.0;
        read =
            ap (λ (n : Numbers). n.read) both.1
            ∙ (holds.harts message.hart numbers.0 numbers.1).read
            ∙ ap (λ h. length (of_hart h sent)) both.0;
        past =
            ap (λ (n : Numbers). n.past) both.1
            ∙ (let now = past_is in
            let few = holds.few message.hart in
            let read = low in
            let is_max : max past (capped (message.number + 1))
            ≡ max (number_after (greatest_number trues message.hart)) (message.number + 1) =
            omega (arith, now, few, read) in is_max)
            ∙ sym (past_own is)
            ∙ ap (λ h. number_after (greatest_number (known_trues own.by sent more) h)) both.0;
      }

  news : equal ≡ true
      → Holds sent more front (record own {
        slots = set own.slots place (record { message = one; came = true });
        harts = set own.harts message.hart greater;
      })
  news is = record {
    slots = slots_new is;
    near = holds.near;
    read = holds.read;
    ahead = holds.ahead;
    in_turn = subst (λ n. AreInTurn n [] sent) (sym (length-set own.harts message.hart greater)) holds.in_turn;
    came_read = read_push sent came message holds.came_read low;
    few = holds.few;
    harts = λ hart other at. numbers_new is hart other at;
  }

  -- What is held after the message is taken.
  pub takes : Holds sent more front
      (taken_by own place message.hart message.number (mark_at own place message.payload))
  takes =
      subst (λ o. Holds sent more front (taken_by own place message.hart message.number (mark_by own.by o message.payload)))
      (sym slot_is)
      (go (equal) (has_number trues one.hart one.number) refl refl)
    where
      go : (alike before : Bool) → equal ≡ alike
          → has_number trues one.hart one.number ≡ before
          → Holds sent more front
          (taken_by own place message.hart message.number
          (cond (not alike) fate.Changed (cond before fate.Repeat fate.InOrder)))
      go false before is has = untrue is
      go true true is has = repeats is has
      go true false is has =
          subst (λ o. Holds sent more front (record own {
            slots = slots_came own.slots place o;
            harts = harts_new own.harts message.hart message.number (slice_get own.harts message.hart);
          })) (sym slot_is)
          (subst (λ o. Holds sent more front (record own {
            slots = set own.slots place (record { message = one; came = true });
            harts = harts_new own.harts message.hart message.number o;
          })) (sym numbers.1) (news is))

  -- What becomes of it.
  pub judges : (distance : ℕ) (its : Finding) → distance ≡ place + 1 - own.near
      → its ≡ found_by (mark_at own place message.payload) (slice_get own.harts message.hart) message.number
      → judged_as distance its
      ≡ judged_by own.by own.window sent came front message
      (standing_of own.window sent front message.hart message.number)
  judges distance its far is =
      (λ i. judged_as
      ((let near = holds.near in
      let same : distance ≡ up_to own.window front place - front = omega (arith, near, far) in same) i)
      ((is ∙ finds) i))
      ∙ ap (judged_by own.by own.window sent came front message) (sym stands)

  -- What is held then.
  pub takes_it : (new : Holding)
      → new ≡ taken_by own place message.hart message.number (mark_at own place message.payload)
      → Holds sent (came_by came message (standing_of own.window sent front message.hart message.number)) front new
  takes_it new is =
      subst (λ its. Holds sent (came_by came message its) front new) (sym stands)
      (subst (Holds sent more front) (sym is) takes)

-- The payload of a message that is held.
pub held_payload : (sent came : List Message) (front : ℕ) (own : Holding) → Holds sent came front own
    → (hart number place : ℕ) (slot : SentMessage) → slice_get own.slots place ≡ Some slot
    → is_at own.slots hart number place ≡ true → Some slot.message.payload ≡ payload_sent sent hart number
held_payload sent came front own holds hart number place slot is found =
    go (slice_get (drop gone sent) place) refl
    (sym (slice_get-map (held (known_trues own.by sent came)) (drop gone sent) place)
    ∙ ap (λ l. slice_get l place) (sym holds.slots) ∙ is)
  where
    gone : ℕ
    gone = given_up own.window front

    own_number : is_numbered hart number slot.message ≡ true
    own_number = sym (ap (is_slot hart number) is) ∙ found

    go : (one : Option Message) → slice_get (drop gone sent) place ≡ one
        → option_map (held (known_trues own.by sent came)) one ≡ Some slot
        → Some slot.message.payload ≡ payload_sent sent hart number
    go None at same = cc
    go (Some one) at same =
        let its : held (known_trues own.by sent came) one ≡ slot = cc in
        let message = ap (λ (s : SentMessage). s.message) its in
        sym (payload_at (length own.harts) [] sent holds.in_turn hart number (gone + place) one
        (sym (slice_get-drop sent gone place) ∙ at) (ap (is_numbered hart number) message ∙ own_number)
        ∙ ap (λ (m : Message). Some m.payload) message)

-- Where a number is in view, some message that is held has it.
pub held_there : (sent came : List Message) (front : ℕ) (own : Holding) → Holds sent came front own
    → (hart number place : ℕ) → standing_of own.window sent front hart number ≡ standing.At place
    → is_at own.slots hart number place ≡ true
held_there sent came front own holds hart number place at =
    let message : Message = record { hart = hart; number = number; payload = [] } in
    ap (is_slot hart number) (slot_is sent came front own holds message place at)
    ∙ (found sent came front own holds message place at).2
