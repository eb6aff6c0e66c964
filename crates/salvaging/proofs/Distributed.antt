-- Messages are added to the lists of their harts.
use Rattle.std.proofs.Common.{◌≡◌, ◌<◌, ◌≤◌, ℕ, zero, suc, ◌+◌, Bool, true, false, List, [], ◌∷◌, ◌++◌, take, length}
use Rattle.std.proofs.Common.{refl, sym, ap}
use Rattle.std.proofs.Common.{subst, ◌∙◌, arith, slice_get, Some, None, slice_index_or}
use Rattle.std.proofs.Common.{slice_set, ⊎_elim}
use Rattle.std.proofs.lemmas.Bool.Decides.{nat_tests}
use Rattle.std.proofs.lemmas.List.{append-nil, length-map, length-set, take_more}
use Rattle.std.proofs.lemmas.List.Elements.{filter-append}
use Rattle.std.proofs.lemmas.Option.{slice_get_within}
use Rattle.std.specs.Prelude.{◌≢◌, ◌==◌, cond}
use Rattle.std.specs.List.{AllClonesOf, AllZip, filter}
use Rattle.std.specs.Vec.{vec_len}
use Rattle.std.specs.declared.vec.Vec.{Vec}
use Rattle.message.specs.OfHart.{of_hart}
use Rattle.message.specs.declared.message.Message.{Message}
use Rattle.message.proofs.AcceptedLemmas.{slice_get-set}
use Rattle.salvaging.specs.Strangers.{has_number, own_messages}
use Rattle.salvaging.specs.declared.received.ReceivedMessage.{ReceivedMessage}
use Rattle.salvaging.specs.steps.Arrivals.{arrival_of, arrivals_in, placed_from}
use Rattle.salvaging.specs.steps.Distributing.{AddsArrival, Distributes}

-- Whether one message is a hart's own.
pub own_one : (hart : ℕ) (message : Message) → message.hart ≡ hart → has_number message ≡ true
    → own_messages hart (message ∷ []) ≡ message ∷ []
own_one hart message is has =
    let test : (message.hart == hart) ≡ true = grind (arith, nat_tests) in
    ap (λ b. filter has_number (cond b (message ∷ []) [])) test ∙ ap (λ b. cond b (message ∷ []) []) has

pub own_other : (hart : ℕ) (message : Message) → message.hart ≢ hart → own_messages hart (message ∷ []) ≡ []
own_other hart message other =
    let test : (message.hart == hart) ≡ false = grind (arith, nat_tests) in
    ap (λ b. filter has_number (cond b (message ∷ []) [])) test

pub own_none : (hart : ℕ) (message : Message) → has_number message ≡ false → own_messages hart (message ∷ []) ≡ []
own_none hart message none = by_hart (message.hart == hart)
  where
    by_hart : (b : Bool) → filter has_number (cond b (message ∷ []) []) ≡ []
    by_hart true = ap (λ b. cond b (message ∷ []) []) none
    by_hart false = refl

pub placed-append : (from : ℕ) (xs ys : List Message)
    → placed_from from (xs ++ ys) ≡ placed_from from xs ++ placed_from (from + length xs) ys
placed-append from [] ys = ap (λ n. placed_from n ys) (omega arith)
placed-append from (x ∷ xs) ys =
    let at : from + 1 + length xs ≡ from + length (x ∷ xs) = omega arith in
    ap (λ l. record { place = from; message = x } ∷ l) (placed-append (from + 1) xs ys
    ∙ ap (λ n. placed_from (from + 1) xs ++ placed_from n ys) at)

pub length-placed : (from : ℕ) (xs : List Message) → length (placed_from from xs) ≡ length xs
length-placed from [] = refl
length-placed from (x ∷ xs) = ap suc (length-placed (from + 1) xs)

length-arrivals : (xs : List ReceivedMessage) → length (arrivals_in xs) ≡ length xs
length-arrivals xs = length-map xs arrival_of

-- An item within a list is there.
none_within : {X : Type 0} (xs : List X) (i : ℕ) → i < length xs → ¬ (slice_get xs i ≡ None)
none_within [] i within is = omega (arith, within)
none_within (x ∷ xs) zero within is = cc
none_within (x ∷ xs) (suc i) within is = none_within xs i (omega (arith, within)) is

pub own-append : (hart : ℕ) (xs ys : List Message)
    → own_messages hart (xs ++ ys) ≡ own_messages hart xs ++ own_messages hart ys
own-append hart xs ys =
    ap (filter has_number) (filter-append (λ (message : Message). message.hart == hart) xs ys)
    ∙ filter-append has_number (of_hart hart xs) (of_hart hart ys)

zipped_none : (Clones : ReceivedMessage → ReceivedMessage → Type 0) (items : List ReceivedMessage)
    → AllZip Clones [] items → items ≡ []
zipped_none Clones [] zipped = refl
zipped_none Clones (x ∷ items) zipped = absurd zipped

module _ {A : Type 0} where
  same_list : (list other : Vec ReceivedMessage A) → Some list ≡ Some other → list ≡ other
  same_list list other is = cc

  -- A message of no hart changes no list.
  adds_nothing : (message : Message) (lists : List (Vec ReceivedMessage A))
      → ((hart : ℕ) (list : Vec ReceivedMessage A) → slice_get lists hart ≡ Some list → own_messages hart
      (message ∷ []) ≡ [])
      → AddsArrival message lists lists
  adds_nothing message lists none = record {
    count = refl;
    each = λ hart before after at_before at_after.
        let same : after ≡ before = same_list after before (sym at_after ∙ at_before) in
        ap (λ (l : Vec ReceivedMessage A). arrivals_in l.items) same ∙ sym (append-nil (arrivals_in before.items))
        ∙ ap (λ l. arrivals_in before.items ++ placed_from (length before.items) l) (sym (none hart before at_before));
  }

  pub adds_unknown : (message : Message) (lists : List (Vec ReceivedMessage A)) → length lists ≤ message.hart
      → AddsArrival message lists lists
  adds_unknown message lists over = adds_nothing message lists
      (λ hart list at. let within = slice_get_within lists hart list at in
      own_other hart message (λ is. omega (arith, within, over, is)))

  -- A message is added to the list of its hart.
  pub adds_own : (message : Message) (lists : List (Vec ReceivedMessage A)) (list new : Vec ReceivedMessage A)
      → has_number message ≡ true → slice_get lists message.hart ≡ Some list
      → arrivals_in new.items
      ≡ arrivals_in list.items ++ record { place = length list.items; message = message } ∷ []
      → AddsArrival message lists (slice_set lists message.hart new)
  adds_own message lists list new has here added = record {
    count = length-set lists message.hart new;
    each = λ hart before after at_before at_after.
        ⊎_elim
        (λ (is : (message.hart ≡ hart) × (after ≡ new)).
        let same : before ≡ list = same_list before list (sym at_before ∙ subst (λ h. slice_get lists h ≡ Some list)
        is.0 here) in
        ap (λ (l : Vec ReceivedMessage A). arrivals_in l.items) is.1 ∙ added
        ∙ ap (λ (l : Vec ReceivedMessage A). arrivals_in l.items ++ placed_from (length l.items) (message ∷ []))
        (sym same)
        ∙ ap (λ ms. arrivals_in before.items ++ placed_from (length before.items) ms)
        (sym (own_one hart message is.0 has)))
        (λ (is : (message.hart ≢ hart) × (slice_get lists hart ≡ Some after)).
        let same : after ≡ before = same_list after before (sym is.1 ∙ at_before) in
        ap (λ (l : Vec ReceivedMessage A). arrivals_in l.items) same ∙ sym (append-nil (arrivals_in before.items))
        ∙ ap (λ l. arrivals_in before.items ++ placed_from (length before.items) l)
        (sym (own_other hart message is.0)))
        (slice_get-set lists message.hart new hart after at_after);
  }

  -- Clones of a list without an item have none.
  none_at : (Clones : ReceivedMessage → ReceivedMessage → Type 0) (one : Vec ReceivedMessage A)
      (lists : List (Vec ReceivedMessage A)) → one.items ≡ []
      → AllClonesOf (λ v w. AllZip Clones v.items w.items × (vec_len w ≡ vec_len v)) one lists
      → (hart : ℕ) (list : Vec ReceivedMessage A) → slice_get lists hart ≡ Some list → list.items ≡ []
  none_at Clones one [] none clones hart list at = cc
  none_at Clones one (first ∷ lists) none (is, more) zero list at =
      ap (λ (v : Vec ReceivedMessage A). v.items) (sym (same_list first list at))
      ∙ ⊎_elim (λ (same : first ≡ one). ap (λ (v : Vec ReceivedMessage A). v.items) same ∙ none)
      (λ (clone : AllZip Clones one.items first.items × (vec_len first ≡ vec_len one)).
      zipped_none Clones first.items (subst (λ l. AllZip Clones l first.items) none clone.0)) is
  none_at Clones one (first ∷ lists) none (is, more) (suc hart) list at =
      none_at Clones one lists none more hart list at

  -- So nothing is distributed to them yet.
  pub distributes_none : (Clones : ReceivedMessage → ReceivedMessage → Type 0) (messages : List Message)
      (one : Vec ReceivedMessage A) (lists : List (Vec ReceivedMessage A)) → one.items ≡ []
      → AllClonesOf (λ v w. AllZip Clones v.items w.items × (vec_len w ≡ vec_len v)) one lists
      → Distributes (take 0 messages) lists
  distributes_none Clones messages one lists none clones = record {
    each = λ hart list at. ap arrivals_in (none_at Clones one lists none clones hart list at) ∙ nothing hart messages;
  }
    where
      nothing : (hart : ℕ) (ms : List Message) → [] ≡ placed_from 0 (own_messages hart (take 0 ms))
      nothing hart [] = refl
      nothing hart (m ∷ ms) = refl

  -- One message more is distributed.
  pub distributes_more : (messages : List Message) (i : ℕ) (message : Message) (old new : List (Vec ReceivedMessage A))
      → i < length messages → message ≡ slice_index_or messages i message
      → Distributes (take i messages) old → AddsArrival message old new → Distributes (take (i + 1) messages) new
  distributes_more messages i message old new within is before adds = record {
    each = λ hart list at.
        let known = slice_get_within new hart list at in
        let count = adds.count in
        by_old hart list at (slice_get old hart) refl (omega (arith, known, count));
  }
    where
      whole : take (i + 1) messages ≡ take i messages ++ message ∷ []
      whole = take_more messages i message within ∙ ap (λ m. take i messages ++ m ∷ []) (sym is)

      by_old : (hart : ℕ) (list : Vec ReceivedMessage A) → slice_get new hart ≡ Some list → (found : _)
          → slice_get old hart ≡ found → hart < length old
          → arrivals_in list.items ≡ placed_from 0 (own_messages hart (take (i + 1) messages))
      by_old hart list at (Some was) found known =
          let front = take i messages in
          let own = own_messages hart front in
          let more = own_messages hart (message ∷ []) in
          let so_far = before.each hart was found in
          let many : length was.items ≡ length own =
          sym (length-arrivals was.items) ∙ ap length so_far ∙ length-placed 0 own in
          let count : length was.items ≡ 0 + length own = omega (arith, many) in
          adds.each hart was list found at
          ∙ ap (λ l. l ++ placed_from (length was.items) more) so_far
          ∙ ap (λ n. placed_from 0 own ++ placed_from n more) count
          ∙ sym (placed-append 0 own more) ∙ ap (placed_from 0) (sym (own-append hart front (message ∷ [])))
          ∙ ap (λ ms. placed_from 0 (own_messages hart ms)) (sym whole)
      by_old hart list at None found known = absurd (none_within old hart known found)
