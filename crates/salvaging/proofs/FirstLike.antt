-- The first of messages that are alike, by a search in their order.
use Rattle.std.proofs.Common.{◌≡◌, ◌⊎◌, inl, inr, ℕ, zero, suc, ◌<◌, ◌≤◌, true, false, Contains, List, [], ◌∷◌}
use Rattle.std.proofs.Common.{Some, get_or, length, refl, sym, ap, subst, ◌∙◌, arith}
use Rattle.std.specs.Cmp.{nat_cmp_is}
use Rattle.std.specs.Cmp.Lexicographic.{slice_cmp}
use Rattle.std.specs.Ordering.{nat_cmp}
use Rattle.std.specs.declared.cmp.Ordering.{Ordering}
use Rattle.std.specs.declared.cmp.Ordering.TheVariants.{Less, Equal, Greater}
use Rattle.std.proofs.lemmas.Bool.{cases_lt}
use Rattle.std.proofs.lemmas.Cmp.{nat_list_cmp_total}
use Rattle.message.specs.declared.message.Message.{Message}
use Rattle.salvaging.specs.declared.received.ReceivedMessage.{ReceivedMessage}
use Rattle.salvaging.specs.steps.Arrivals.{Arrival, AreOrdered, IsUpTo, arrival_of, arrivals_in}
use Rattle.salvaging.specs.steps.Looking.{IsFirstLike, below_by, is_below}
use Rattle.salvaging.proofs.Members.{IsIn, contains_of_in, in_of_contains}
use Rattle.salvaging.proofs.OrderLemmas.{AreAlikeHere, Each, came_first, each_of_all}

-- The message comes before those with this number and this payload.
abbrev Below : Message → Arrival → Type 0
Below message one =
    (one.message.number < message.number)
    ⊎ ((one.message.number ≡ message.number) × (slice_cmp nat_cmp one.message.payload message.payload ≡ Less))

tested : (message : Message) (one : Arrival) → Below message one → is_below message one ≡ true
tested message one (inl lower) =
    ap (λ o. below_by o (slice_cmp nat_cmp one.message.payload message.payload))
    (sym (nat_cmp_is one.message.number message.number Less lower))
tested message one (inr (is, less)) =
    ap (λ o. below_by o (slice_cmp nat_cmp one.message.payload message.payload))
    (sym (nat_cmp_is one.message.number message.number Equal is))
    ∙ ap (below_by Equal) less

not_below : (message : Message) (one : Arrival) → is_below message one ≡ false → ¬ Below message one
not_below message one test below = let never : true ≡ false = sym (tested message one below) ∙ test in cc

-- What the test says.
below_at : (message : Message) (one : Arrival) → is_below message one ≡ true → Below message one
below_at message one test = by_number (cases_lt one.message.number message.number)
  where
    by_payload : one.message.number ≡ message.number → (order : Ordering)
        → slice_cmp nat_cmp one.message.payload message.payload ≡ order → below_by Equal order ≡ true
        → Below message one
    by_payload is Less less test = inr (is, less)
    by_payload is Equal same test = cc
    by_payload is Greater more test = cc

    same_number : one.message.number ≡ message.number → Below message one
    same_number is =
        by_payload is (slice_cmp nat_cmp one.message.payload message.payload) refl
        (ap (λ o. below_by o (slice_cmp nat_cmp one.message.payload message.payload))
        (nat_cmp_is one.message.number message.number Equal is) ∙ test)

    higher : message.number < one.message.number → Below message one
    higher above =
        let never : false ≡ true =
        ap (λ o. below_by o (slice_cmp nat_cmp one.message.payload message.payload))
        (nat_cmp_is one.message.number message.number Greater above) ∙ test in
        cc

    by_number : (one.message.number < message.number) ⊎ (message.number ≤ one.message.number) → Below message one
    by_number (inl lower) = inl lower
    by_number (inr upto) = by_other (cases_lt message.number one.message.number)
      where
        by_other : (message.number < one.message.number) ⊎ (one.message.number ≤ message.number) → Below message one
        by_other (inl above) = higher above
        by_other (inr down) = same_number (omega (arith, upto, down))

-- What stands before one that comes before does so too.
below_down : (message : Message) (one other : Arrival) → IsUpTo one other → Below message other → Below message one
below_down message one other (inl lower) (inl below) = inl (omega (arith, lower, below))
below_down message one other (inl lower) (inr (is, less)) = inl (omega (arith, lower, is))
below_down message one other (inr (same, payload)) (inl below) = inl (omega (arith, same, below))
below_down message one other (inr (same, inl less)) (inr (is, more)) =
    inr (
      same ∙ is,
      nat_list_cmp_total.trans one.message.payload other.message.payload message.payload less more,
    )
below_down message one other (inr (same, inr (payload, earlier))) (inr (is, more)) =
    inr (same ∙ is, subst (λ l. slice_cmp nat_cmp l message.payload ≡ Less) (sym payload) more)

-- What does not come before, and stands up to one like the message, is like it.
like_at : (message : Message) (one own : Arrival) → ¬ Below message one → IsUpTo one own
    → own.message.number ≡ message.number → own.message.payload ≡ message.payload
    → (one.message.number ≡ message.number) × (one.message.payload ≡ message.payload)
like_at message one own not (inl lower) number payload = absurd (not (inl (omega (arith, lower, number))))
like_at message one own not (inr (same, inl less)) number payload =
    absurd (not (inr (
      same ∙ number,
      subst (λ l. slice_cmp nat_cmp one.message.payload l ≡ Less) payload less,
    )))
like_at message one own not (inr (same, inr (alike, earlier))) number payload = (same ∙ number, alike ∙ payload)

-- One like the message does not come before it.
not_below_like : (message : Message) (own : Arrival) → own.message.number ≡ message.number
    → own.message.payload ≡ message.payload → ¬ Below message own
not_below_like message own number payload (inl lower) = omega (arith, lower, number)
not_below_like message own number payload (inr (is, less)) =
    let twice : slice_cmp nat_cmp message.payload message.payload ≡ Less =
    subst (λ l. slice_cmp nat_cmp l message.payload ≡ Less) payload less in
    let back = nat_list_cmp_total.antisymm message.payload message.payload in
    cc

-- By the places in the list.
each_at : (P : Arrival → Type 0) (came : List ReceivedMessage) (k : ℕ) (d : ReceivedMessage) → Each P (arrivals_in came)
    → k < length came → P (arrival_of (get_or came k d))
each_at P [] k d each within = absurd (omega (arith, within))
each_at P (one ∷ came) zero d each within = each.0
each_at P (one ∷ came) (suc k) d each within = each_at P came k d each.1 (omega (arith, within))

ordered_at : (came : List ReceivedMessage) (i j : ℕ) (d : ReceivedMessage) → AreOrdered (arrivals_in came) → i < j
    → j < length came
    → IsUpTo (arrival_of (get_or came i d)) (arrival_of (get_or came j d))
ordered_at [] i j d ordered before within = absurd (omega (arith, within))
ordered_at (one ∷ came) i zero d ordered before within = absurd (omega (arith, before))
ordered_at (one ∷ came) zero (suc j) d ordered before within =
    each_at (IsUpTo (arrival_of one)) came j d
    (each_of_all (IsUpTo (arrival_of one)) (arrivals_in came) ordered.0) (omega (arith, within))
ordered_at (one ∷ came) (suc i) (suc j) d ordered before within =
    ordered_at came i j d ordered.1 (omega (arith, before)) (omega (arith, within))

-- Where one of them stands.
pub record StandsAt (came : List ReceivedMessage) (own : Arrival) : Type 0 where
  pub at : ℕ
  pub within : at < length came
  pub here : (d : ReceivedMessage) → arrival_of (get_or came at d) ≡ own

stands_at : (came : List ReceivedMessage) (own : Arrival) → IsIn own (arrivals_in came) → StandsAt came own
stands_at [] own there = absurd there
stands_at (one ∷ came) own (inl is) =
    record { at = 0; within = omega arith; here = λ d. sym is }
stands_at (one ∷ came) own (inr there) =
    let later = stands_at came own there in
    let within = later.within in
    record { at = suc later.at; within = omega (arith, within); here = later.here }

in_at : (came : List ReceivedMessage) (k : ℕ) (d : ReceivedMessage) → k < length came → IsIn (arrival_of
    (get_or came k d)) (arrivals_in came)
in_at [] k d within = absurd (omega (arith, within))
in_at (one ∷ came) zero d within = inl refl
in_at (one ∷ came) (suc k) d within = inr (in_at came k d (omega (arith, within)))

-- Those before one that comes before do so.
pub parted : (message : Message) (came : List ReceivedMessage) → AreOrdered (arrivals_in came) → (i j : ℕ)
    (d : ReceivedMessage) → i ≤ j
    → j < length came → is_below message (arrival_of (get_or came j d)) ≡ true
    → is_below message (arrival_of (get_or came i d)) ≡ true
parted message came ordered i j d upto within test = by_place (cases_lt i j)
  where
    by_place : (i < j) ⊎ (j ≤ i) → is_below message (arrival_of (get_or came i d)) ≡ true
    by_place (inl before) =
        tested message (arrival_of (get_or came i d))
        (below_down message (arrival_of (get_or came i d)) (arrival_of (get_or came j d))
        (ordered_at came i j d ordered before within) (below_at message (arrival_of (get_or came j d)) test))
    by_place (inr over) =
        let same : j ≡ i = omega (arith, upto, over) in
        subst (λ k. is_below message (arrival_of (get_or came k d)) ≡ true) same test

module _ (message : Message) (came : List ReceivedMessage) (ordered : AreOrdered (arrivals_in came)) (i : ℕ)
    (before : (k : ℕ) (d : ReceivedMessage) → k < i → is_below message (arrival_of (get_or came k d)) ≡ true)
    (behind : (k : ℕ) (d : ReceivedMessage) → i ≤ k → k < length came → is_below message (arrival_of
    (get_or came k d)) ≡ false) where
  -- One like the message does not stand before.
  no_sooner : (own : Arrival) → own.message.number ≡ message.number → own.message.payload ≡ message.payload
      → (s : StandsAt came own) → (d : ReceivedMessage) → i ≤ s.at
  no_sooner own number payload s d = by_place (cases_lt s.at i)
    where
      by_place : (s.at < i) ⊎ (i ≤ s.at) → i ≤ s.at
      by_place (inr fine) = fine
      by_place (inl sooner) =
          let below = below_at message own (subst (λ a. is_below message a ≡ true) (s.here d) (before s.at d sooner)) in
          absurd (not_below_like message own number payload below)

  up_to : (own : Arrival) (s : StandsAt came own) (d : ReceivedMessage) → i ≤ s.at → IsUpTo (arrival_of
      (get_or came i d)) own
      ⊎ (arrival_of (get_or came i d) ≡ own)
  up_to own s d over = by_place (cases_lt i s.at)
    where
      by_place : (i < s.at) ⊎ (s.at ≤ i) → IsUpTo (arrival_of (get_or came i d)) own
          ⊎ (arrival_of (get_or came i d) ≡ own)
      by_place (inl sooner) =
          inl (subst (IsUpTo (arrival_of (get_or came i d))) (s.here d)
          (ordered_at came i s.at d ordered sooner s.within))
      by_place (inr under) =
          let same : s.at ≡ i = omega (arith, over, under) in
          inr (sym (ap (λ k. arrival_of (get_or came k d)) same) ∙ s.here d)

  -- There is one that does not come before, if one is like the message.
  pub some_like : (own : Arrival) → Contains (arrivals_in came) own → own.message.number ≡ message.number
      → own.message.payload ≡ message.payload → i < length came
  some_like own there number payload =
      let s = stands_at came own (in_of_contains (arrivals_in came) own there) in
      by_came came s.at s.within
      (λ d. no_sooner own number payload s d)
    where
      by_came : (cs : List ReceivedMessage) (at : ℕ) → at < length cs → ((d : ReceivedMessage) → i ≤ at) → i < length cs
      by_came [] at within over = absurd (omega (arith, within))
      by_came (one ∷ cs) at within over = let sooner = over one in omega (arith, within, sooner)

  pub first_found : (own : Arrival) → Contains (arrivals_in came) own → own.message.number ≡ message.number
      → own.message.payload ≡ message.payload → (d : ReceivedMessage)
      → IsFirstLike (arrivals_in came) message (Some (arrival_of (get_or came i d)).place)
  first_found own there number payload d =
      let s = stands_at came own (in_of_contains (arrivals_in came) own there) in
      let over = no_sooner own number payload s d in
      let within = some_like own there number payload in
      let first = arrival_of (get_or came i d) in
      let not = not_below message first (behind i d (omega arith) within) in
      let alike : (first.message.number ≡ message.number) × (first.message.payload ≡ message.payload) =
      by_up first not number payload (up_to own s d over) in
      record {
        first = first;
        found_is = refl;
        there = contains_of_in (arrivals_in came) first (in_at came i d within);
        number = alike.0;
        payload = alike.1;
        earliest = λ other among same_number same_payload.
            let t = stands_at came other (in_of_contains (arrivals_in came) other among) in
            by_other first other (record {
              number = alike.0 ∙ sym same_number;
              payload = alike.1 ∙ sym same_payload;
            }) (up_to other t d (no_sooner other same_number same_payload t d));
      }
    where
      by_up : (first : Arrival) → ¬ Below message first → own.message.number ≡ message.number
          → own.message.payload ≡ message.payload → IsUpTo first own ⊎ (first ≡ own)
          → (first.message.number ≡ message.number) × (first.message.payload ≡ message.payload)
      by_up first not number payload (inl upto) = like_at message first own not upto number payload
      by_up first not number payload (inr is) =
          (ap (λ (a : Arrival). a.message.number) is ∙ number, ap (λ (a : Arrival). a.message.payload) is ∙ payload)

      by_other : (first other : Arrival) → AreAlikeHere first other → IsUpTo first other ⊎ (first ≡ other)
          → first.place ≤ other.place
      by_other first other alike (inl upto) = came_first first other upto alike
      by_other first other alike (inr is) =
          let same = ap (λ (a : Arrival). a.place) is in omega (arith, same)
