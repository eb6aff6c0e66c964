-- The front goes on by one message.
use Rattle.std.proofs.Common.{◌≡◌, ◌≢◌, ◌⊎◌, inl, inr, ℕ, zero, suc, ◌+◌, ◌^◌, ◌<◌, ◌≤◌, false, cond, ltb}
use Rattle.std.proofs.Common.{List, [], ◌∷◌, ◌++◌, Option, Some, None, drop, length, map, slice_get, take}
use Rattle.std.proofs.Common.{refl, sym, ap, subst, ◌∙◌, arith}
use Rattle.std.specs.Prelude.{option_map}
use Rattle.std.proofs.lemmas.Bool.{cases_eq, cases_lt, le-ltb, lt-ltb}
use Rattle.std.proofs.lemmas.List.{append-nil, append_assoc, length-set, take-append-drop}
use Rattle.message.proofs.AcceptedLemmas.{slice_get-set}
use Rattle.message.proofs.Elements.{slice_get-some}
use Rattle.message.proofs.OfHartLemmas.{of_hart-other}
use Rattle.message.specs.OfHart.{of_hart}
use Rattle.message.specs.declared.message.Message.{Message}
use Rattle.auditing.proofs.SentLemmas.{next_of_hart}
use Rattle.auditing.specs.Audits.{capped, number_after}
use Rattle.auditing.specs.Findings.{greatest_number}
use Rattle.auditing.specs.Sent.{AreInTurn}
use Rattle.live.specs.Compared.{known_trues}
use Rattle.live.specs.Holding.{Holding}
use Rattle.live.specs.Holds.{AreNumbers, Holds}
use Rattle.live.specs.Live.{held, last_held}
use Rattle.live.specs.View.{given_up}
use Rattle.live.specs.declared.numbers.Numbers.{Numbers}
use Rattle.live.specs.steps.Passing.{harts_without, passed, passes_by, without_first}
use Rattle.live.proofs.Reading.{counts_more, held_count}
use Rattle.live.proofs.Standings.{no_fewer}

-- A list from a place on begins with what is at the place.
pub drop_from : (xs : List Message) (i : ℕ) (x : Message) → slice_get xs i ≡ Some x → drop i xs ≡ x ∷ drop (suc i) xs
drop_from [] i x is = cc
drop_from (a ∷ xs) zero x is = let same : a ≡ x = cc in ap (λ y. y ∷ xs) same
drop_from (a ∷ xs) (suc i) x is = drop_from xs i x is

-- A list up to a place and what is there.
pub take_to : (xs : List Message) (i : ℕ) (x : Message) → slice_get xs i ≡ Some x → take (suc i) xs ≡ take i xs ++ x ∷ []
take_to [] i x is = cc
take_to (a ∷ xs) zero x is = let same : a ≡ x = cc in ap (λ y. y ∷ []) same
take_to (a ∷ xs) (suc i) x is = ap (λ l. a ∷ l) (take_to xs i x is)

-- The number of a message is how many of its hart are before it.
pub numbered_at : (harts : ℕ) (before messages : List Message) → AreInTurn harts before messages
    → (k : ℕ) (message : Message) → slice_get messages k ≡ Some message
    → message.number ≡ length (of_hart message.hart (before ++ take k messages))
numbered_at harts before [] turn k message is = cc
numbered_at harts before (first ∷ messages) turn zero message is =
    let same : first ≡ message = cc in
    subst (λ (m : Message). m.number ≡ length (of_hart m.hart (before ++ []))) same
    ((next_of_hart harts before first turn.0).1 ∙ ap (λ l. length (of_hart first.hart l)) (sym (append-nil before)))
numbered_at harts before (first ∷ messages) turn (suc k) message is =
    numbered_at harts (before ++ first ∷ []) messages turn.1 k message is
    ∙ ap (λ l. length (of_hart message.hart l)) (append_assoc before (first ∷ []) (take k messages))

module _ (sent came : List Message) (front : ℕ) (own : Holding) (holds : Holds sent came front own)
    (more : front < length sent) where
  abbrev trues : List Message
  trues = known_trues own.by sent came

  abbrev gone : ℕ
  gone = given_up own.window front

  -- One more is held than there are up to the front.
  some_after : own.near < length own.slots
  some_after = let near = holds.near in let count = held_count sent came front own holds in omega (arith, near, count, more)

  -- Where there are no more than a window before the front, none is given up.
  near_passes : own.near ≤ own.window → Holds sent came (front + 1) (record own { near = own.near + 1 })
  near_passes few = record {
    slots = holds.slots ∙ ap (λ g. map (held trues) (drop g sent)) same;
    near = let is = holds.near in let e = same in omega (arith, is, e);
    read = omega (arith, more);
    ahead = let ahead = holds.ahead in omega (arith, ahead);
    in_turn = holds.in_turn;
    came_read = holds.came_read;
    few = holds.few;
    harts = λ hart numbers is.
        subst (λ g. AreNumbers (take g sent) sent trues hart numbers) same (holds.harts hart numbers is);
  }
    where
      same : gone ≡ given_up own.window (front + 1)
      same = let near = holds.near in omega (arith, near, few)

  none_given : own.near ≤ own.window → None ≡ last_held own.by came sent (given_up own.window (front + 1))
  none_given few =
      let zero_given : 0 ≡ given_up own.window (front + 1) = let near = holds.near in omega (arith, near, few) in
      ap (last_held own.by came sent) zero_given

  module _ (far : own.window < own.near) where
    -- One more is given up.
    one_given : suc gone ≡ given_up own.window (front + 1)
    one_given = let near = holds.near in omega (arith, near, far)

    found : (message : Message) × (slice_get sent gone ≡ Some message)
    found = slice_get-some sent gone (let near = holds.near in omega (arith, near, more))

    abbrev first : Message
    first = found.0

    number_is : first.number ≡ length (of_hart first.hart (take gone sent))
    number_is = numbered_at (length own.harts) [] sent holds.in_turn gone first found.1

    one_of_hart : length (of_hart first.hart (take (suc gone) sent)) ≡ first.number + 1
    one_of_hart =
        ap (λ l. length (of_hart first.hart l)) (take_to sent gone first found.1)
        ∙ counts_more (take gone sent) first
        ∙ ap (λ n. n + 1) (sym number_is)

    bounded : first.number + 1 < 2 ^ 64
    bounded =
        let fewer = no_fewer first.hart (take (suc gone) sent) (drop (suc gone) sent) in
        let whole = ap (λ l. length (of_hart first.hart l)) (take-append-drop (suc gone) sent) in
        let few = holds.few first.hart in
        let is = one_of_hart in
        omega (arith, fewer, whole, few, is)

    shorter : own.slots ≡ held trues first ∷ map (held trues) (drop (suc gone) sent)
    shorter = holds.slots ∙ ap (λ l. map (held trues) l) (drop_from sent gone first found.1)

    -- The numbers of another hart stay.
    beside : (hart : ℕ) (numbers : Numbers) → slice_get own.harts hart ≡ Some numbers → first.hart ≢ hart
        → AreNumbers (take (suc gone) sent) sent trues hart numbers
    beside hart numbers is other = record {
      gone =
          (holds.harts hart numbers is).gone
          ∙ ap length (sym (of_hart-other hart (take gone sent) first other))
          ∙ ap (λ l. length (of_hart hart l)) (sym (take_to sent gone first found.1));
      read = (holds.harts hart numbers is).read;
      past = (holds.harts hart numbers is).past;
    }

    -- The numbers of the harts.
    harts_passed : (o : Option Numbers) → slice_get own.harts first.hart ≡ o → (hart : ℕ) (numbers : Numbers)
        → slice_get (harts_without own.harts first.hart first.number o) hart ≡ Some numbers
        → AreNumbers (take (suc gone) sent) sent trues hart numbers
    harts_passed None at hart numbers is = other_hart hart numbers is (cases_eq first.hart hart)
      where
        other_hart : (hart : ℕ) (numbers : Numbers) → slice_get own.harts hart ≡ Some numbers
            → (first.hart ≡ hart) ⊎ (first.hart ≡ hart → ⊥) → AreNumbers (take (suc gone) sent) sent trues hart numbers
        other_hart hart numbers is (inl same) =
            let none : None ≡ Some numbers = sym at ∙ ap (slice_get own.harts) same ∙ is in cc
        other_hart hart numbers is (inr other) = beside hart numbers is other
    harts_passed (Some old) at hart numbers is =
        written (slice_get-set own.harts first.hart (record old { gone = capped (first.number + 1) }) hart numbers is)
      where
        written : ((first.hart ≡ hart) × (numbers ≡ record old { gone = capped (first.number + 1) }))
            ⊎ ((first.hart ≢ hart) × (slice_get own.harts hart ≡ Some numbers))
            → AreNumbers (take (suc gone) sent) sent trues hart numbers
        written (inr both) = beside hart numbers both.1 both.0
        written (inl both) = record {
          gone =
              ap (λ (n : Numbers). n.gone) both.1
              ∙ (let few = bounded in let same : capped (first.number + 1) ≡ first.number + 1 = omega (arith, few) in same)
              ∙ sym one_of_hart
              ∙ ap (λ h. length (of_hart h (take (suc gone) sent))) both.0;
          read =
              ap (λ (n : Numbers). n.read) both.1
              ∙ (holds.harts first.hart old at).read
              ∙ ap (λ h. length (of_hart h sent)) both.0;
          past =
              ap (λ (n : Numbers). n.past) both.1
              ∙ (holds.harts first.hart old at).past
              ∙ ap (λ h. number_after (greatest_number trues h)) both.0;
        }

    -- As many harts.
    same_harts : (o : Option Numbers) → length (harts_without own.harts first.hart first.number o) ≡ length own.harts
    same_harts None = refl
    same_harts (Some old) = length-set own.harts first.hart (record old { gone = capped (first.number + 1) })

    -- What is held after the first message in view is given up.
    far_passes : Holds sent came (front + 1) (without_first own own.slots)
    far_passes = subst (λ l. Holds sent came (front + 1) (without_first own l)) (sym shorter) (record {
      slots = ap (λ g. map (held trues) (drop g sent)) one_given;
      near = let near = holds.near in let e = one_given in omega (arith, near, e);
      read = omega (arith, more);
      ahead = let ahead = holds.ahead in omega (arith, ahead);
      in_turn =
          subst (λ n. AreInTurn n [] sent) (sym (same_harts (slice_get own.harts first.hart))) holds.in_turn;
      came_read = holds.came_read;
      few = holds.few;
      harts = λ hart numbers is.
          subst (λ g. AreNumbers (take g sent) sent trues hart numbers) one_given
          (harts_passed (slice_get own.harts first.hart) refl hart numbers is);
    })

    first_given : slice_get own.slots 0 ≡ last_held own.by came sent (given_up own.window (front + 1))
    first_given =
        ap (λ l. slice_get l 0) shorter
        ∙ ap (option_map (held trues)) (sym found.1)
        ∙ ap (last_held own.by came sent) one_given

  -- What is held after the front went on.
  pub passes : Holds sent came (front + 1) (passed own)
  passes =
      subst (Holds sent came (front + 1))
      (sym (ap (λ b. cond b (cond (ltb own.window own.near) (without_first own own.slots) (record own { near = own.near + 1 })) own)
      (lt-ltb own.near (length own.slots) some_after)))
      (go (cases_lt own.window own.near))
    where
      go : (own.window < own.near) ⊎ (own.near ≤ own.window)
          → Holds sent came (front + 1)
          (cond (ltb own.window own.near) (without_first own own.slots) (record own { near = own.near + 1 }))
      go (inl far) =
          subst (λ b. Holds sent came (front + 1) (cond b (without_first own own.slots) (record own { near = own.near + 1 })))
          (sym (lt-ltb own.window own.near far)) (far_passes far)
      go (inr few) =
          subst (λ b. Holds sent came (front + 1) (cond b (without_first own own.slots) (record own { near = own.near + 1 })))
          (sym (le-ltb own.window own.near few)) (near_passes few)

  -- What is given up then.
  pub gives : passes_by own ≡ last_held own.by came sent (given_up own.window (front + 1))
  gives =
      ap (λ b. cond b (cond (ltb own.window own.near) (slice_get own.slots 0) None) None)
      (lt-ltb own.near (length own.slots) some_after)
      ∙ go (cases_lt own.window own.near)
    where
      go : (own.window < own.near) ⊎ (own.near ≤ own.window)
          → cond (ltb own.window own.near) (slice_get own.slots 0) None
          ≡ last_held own.by came sent (given_up own.window (front + 1))
      go (inl far) =
          ap (λ b. cond b (slice_get own.slots 0) None) (lt-ltb own.window own.near far) ∙ first_given far
      go (inr few) =
          ap (λ b. cond b (slice_get own.slots 0) None) (le-ltb own.window own.near few) ∙ none_given few

-- Where nothing after the front was read, it does not go on.
pub ends : (sent came : List Message) (front : ℕ) (own : Holding) → Holds sent came front own → front ≡ length sent
    → (passed own ≡ own) × (passes_by own ≡ None)
ends sent came front own holds end = (
  ap (λ b. cond b (cond (ltb own.window own.near) (without_first own own.slots) (record own { near = own.near + 1 })) own) none,
  ap (λ b. cond b (cond (ltb own.window own.near) (slice_get own.slots 0) None) None) none,
)
  where
    none : ltb own.near (length own.slots) ≡ false
    none =
        let near = holds.near in
        let count = held_count sent came front own holds in
        le-ltb own.near (length own.slots) (omega (arith, near, count, end))
