-- How many messages of each hart are of each, with one message more.
use Rattle.std.proofs.Common.{◌≡◌, ◌≢◌, ℕ, zero, suc, ◌+◌, ◌^◌, ◌<◌, ◌≤◌, Bool, true, false, cond, eqb, List, []}
use Rattle.std.proofs.Common.{◌∷◌, ◌++◌, Option, Some, None, length, map, max, replicate, slice_get, slice_set, refl, sym, ap, subst}
use Rattle.std.proofs.Common.{◌∙◌, arith, add-zero, zero-add}
use Rattle.std.specs.Prelude.{◌&&◌, not, option_map}
use Rattle.std.specs.List.{filter, list_any, range_with_len}
use Rattle.std.proofs.lemmas.Bool.{eq-eqb, ne_eqb, and_right}
use Rattle.std.proofs.lemmas.List.{map-set}
use Rattle.std.proofs.lemmas.List.Sums.{count_by-le-length, sum_by-cons, sum_by_push}
use Rattle.std.proofs.lemmas.Option.{slice_get-map, same_Some}
use Rattle.message.specs.OfHart.{of_hart}
use Rattle.message.specs.declared.message.Message.{Message}
use Rattle.payload.specs.declared.by.By.TheVariants as by
use Rattle.auditing.proofs.CountLemmas.{capped_more}
use Rattle.auditing.proofs.OwnMessages.{any_of_hart, fits}
use Rattle.auditing.proofs.SentLemmas.{none_above}
use Rattle.auditing.proofs.TakingLemmas.{chosen, has_its_number, of_its_hart, same, true_is_known}
use Rattle.auditing.specs.Audits.{AuditsHart, all_moved, capped}
use Rattle.auditing.specs.Exchanged.{exchanged, first_exchanged, has_of, is_hart, is_moved, is_most, moved, owner_of, the_only}
use Rattle.auditing.specs.Exchanged.{untrue}
use Rattle.auditing.specs.Fates.{fate_of, has_greater, has_number, is_same, is_true, true_ones}
use Rattle.auditing.specs.Ledger.{HartLedger}
use Rattle.auditing.specs.Sent.{harts_in}
use Rattle.auditing.specs.steps.Moving.{changed_at, changed_found, counted_once, has_in, harts_that, is_payload, is_untrue}
use Rattle.auditing.specs.steps.Moving.{moves_if, none_moved, owner_in}

-- Functions that are alike on a range give the same list.
pub same_on : {A : Type 0} (f g : ℕ → A) (from count : ℕ) → ((x : ℕ) → from ≤ x → f x ≡ g x)
    → map f (range_with_len from count) ≡ map g (range_with_len from count)
same_on f g from zero each = refl
same_on f g from (suc count) each = λ i.
    each from (omega arith) i ∷ same_on f g (from + 1) count (λ x low. each x (omega (arith, low))) i

-- The element at a place of what a function gives on a range is changed: what another function gives, which differs there
-- alone.
pub changed_range : {A : Type 0} (f g : ℕ → A) (change : A → A) (from count place : ℕ)
    → ((x : ℕ) → x ≢ from + place → f x ≡ g x) → change (f (from + place)) ≡ g (from + place)
    → changed_at change (map f (range_with_len from count)) place ≡ map g (range_with_len from count)
changed_range f g change from zero zero others here = refl
changed_range f g change from zero (suc place) others here = refl
changed_range f g change from (suc count) zero others here =
    let at : from + 0 ≡ from = add-zero from in
    let first : change (f from) ≡ g from =
    sym (λ i. change (f (at i))) ∙ here ∙ ap g at in
    let rest = same_on f g (from + 1) count (λ x low. others x (λ same. omega (arith, same, low))) in
    λ i. first i ∷ rest i
changed_range {A} f g change from (suc count) (suc place) others here =
    go (slice_get rest place)
    ∙ (λ i. others from (λ same. omega (arith, same)) i
    ∷ changed_range f g change (from + 1) count place (λ x other. others x (λ same. other (omega (arith, same)))) next i)
  where
    rest : List A
    rest = map f (range_with_len (from + 1) count)

    moved_on : from + suc place ≡ from + 1 + place
    moved_on = omega arith

    next : change (f (from + 1 + place)) ≡ g (from + 1 + place)
    next = subst (λ n. change (f n) ≡ g n) moved_on here

    go : (o : Option A) → changed_found change (f from ∷ rest) (suc place) o ≡ f from ∷ changed_found change rest place o
    go None = refl
    go (Some own) = refl

-- The element at a place of what a function gives on a range.
pub range_at : {A : Type 0} (f : ℕ → A) (from count place : ℕ) → place < count
    → slice_get (map f (range_with_len from count)) place ≡ Some (f (from + place))
range_at f from zero place within = absurd (omega (arith, within))
range_at f from (suc count) zero within = ap (λ n. Some (f n)) (sym (add-zero from))
range_at f from (suc count) (suc place) within =
    range_at f (from + 1) count place (omega (arith, within)) ∙ ap (λ n. Some (f n)) (omega arith)

-- A list with an element changed, as another one.
pub changed_map : {A B : Type 0} (f : A → B) (change : B → B) (list : List A) (place : ℕ) (old new : A)
    → slice_get list place ≡ Some old → f new ≡ change (f old)
    → map f (slice_set list place new) ≡ changed_at change (map f list) place
changed_map f change list place old new at is =
    map-set f list place new ∙ ap (slice_set (map f list) place) is
    ∙ sym (ap (changed_found change (map f list) place) (slice_get-map f list place ∙ ap (option_map f) at))

-- A test that nothing passes from a place on.
none_in : (has : ℕ → Bool) (from count : ℕ) → ((x : ℕ) → from ≤ x → has x ≡ false)
    → filter has (range_with_len from count) ≡ []
none_in has from zero none = refl
none_in has from (suc count) none =
    ap (λ b. cond b (from ∷ filter has (range_with_len (from + 1) count)) (filter has (range_with_len (from + 1) count)))
    (none from (omega arith))
    ∙ none_in has (from + 1) count (λ x low. none x (omega (arith, low)))

-- What passes it is in a range that ends there.
passes_below : (has : ℕ → Bool) (from count all : ℕ) → count ≤ all → ((x : ℕ) → from + count ≤ x → has x ≡ false)
    → filter has (range_with_len from all) ≡ filter has (range_with_len from count)
passes_below has from zero all within none = none_in has from all (λ x past. none x (omega (arith, past)))
passes_below has from (suc count) zero within none = absurd (omega (arith, within))
passes_below has from (suc count) (suc all) within none =
    ap (λ rest. cond (has from) (from ∷ rest) rest)
    (passes_below has (from + 1) count all (omega (arith, within)) (λ x past. none x (omega (arith, past))))

-- So two ranges that end there or later have the same.
pub passes_alike : (has : ℕ → Bool) (one other : ℕ) → ((x : ℕ) → one ≤ x → has x ≡ false)
    → ((x : ℕ) → other ≤ x → has x ≡ false)
    → filter has (range_with_len 0 one) ≡ filter has (range_with_len 0 other)
passes_alike has one other none none_other =
    sym (passes_below has 0 one (max one other) (omega arith) (λ x past. none x (omega (arith, past))))
    ∙ passes_below has 0 other (max one other) (omega arith) (λ x past. none_other x (omega (arith, past)))

-- The only one that passes a test passes it.
only_passes : (has : ℕ → Bool) (harts : List ℕ) (hart : ℕ) → the_only (filter has harts) ≡ Some hart → has hart ≡ true
only_passes has [] hart is = cc
only_passes has (one ∷ harts) hart is = go (has one) refl (only_passes has harts hart) is
  where
    first : (rest : List ℕ) → has one ≡ true → the_only (one ∷ rest) ≡ Some hart → has hart ≡ true
    first [] own e = subst (λ h. has h ≡ true) (same_Some one hart e) own
    first (other ∷ rest) own e = cc

    go : (b : Bool) → has one ≡ b → (the_only (filter has harts) ≡ Some hart → has hart ≡ true)
        → the_only (cond b (one ∷ filter has harts) (filter has harts)) ≡ Some hart → has hart ≡ true
    go true own rest e = first (filter has harts) own e
    go false own rest e = rest e

-- The harts that pass a test are those of a range that do.
harts_that_are : (test : HartLedger → Bool) (has : ℕ → Bool) (from : ℕ) (harts : List HartLedger)
    → ((place : ℕ) (own : HartLedger) → slice_get harts place ≡ Some own → test own ≡ has (from + place))
    → harts_that test from harts ≡ filter has (range_with_len from (length harts))
harts_that_are test has from [] each = refl
harts_that_are test has from (own ∷ harts) each =
    let first : test own ≡ has from = each 0 own refl ∙ ap has (add-zero from) in
    let rest = harts_that_are test has (from + 1) harts
    (λ place its is. each (suc place) its is ∙ ap has (omega arith)) in
    λ i. cond (first i) (from ∷ rest i) (rest i)

-- SENT has nothing of a hart of which it has no message.
pub none_of : (sent : List Message) (message : Message) (hart : ℕ) → of_hart hart sent ≡ []
    → has_of sent message hart ≡ false
none_of sent message hart none =
    let its : Message = record message { hart = hart } in
    any_of_hart hart (is_same its)
    (λ other is. of_its_hart hart message.number other (has_its_number its other is)) sent
    ∙ ap (list_any (is_same its)) none

module _ (sent received : List Message) (harts : List HartLedger) (message : Message)
    (each : (hart : ℕ) (own : HartLedger) → slice_get harts hart ≡ Some own → AuditsHart sent received hart own)
    (others : (hart : ℕ) → length harts ≤ hart → of_hart hart sent ≡ []) where
  has_is : (hart : ℕ) (own : HartLedger) → slice_get harts hart ≡ Some own
      → has_in by.Bytes message.number message.payload own ≡ has_of sent message hart
  has_is hart own at =
      go (slice_get own.payloads message.number)
      ∙ sym (same sent received (record message { hart = hart }) own (each hart own at))
    where
      go : (o : Option (List ℕ)) → is_payload by.Bytes message.payload o ≡ fits message.payload o
      go None = refl
      go (Some payload) = refl

  -- The hart whose a message is, is the one of the definition.
  pub owner_is : owner_in by.Bytes harts message.number message.payload ≡ owner_of sent message
  owner_is =
      ap the_only
      (harts_that_are (has_in by.Bytes message.number message.payload) (has_of sent message) 0 harts
      (λ place own at. has_is place own at ∙ ap (has_of sent message) (sym (zero-add place)))
      ∙ passes_alike (has_of sent message) (length harts) (harts_in sent)
      (λ hart past. none_of sent message hart (others hart past))
      (λ hart past. none_of sent message hart (none_above hart sent past)))

-- A message is not true by its fate.
pub untrue_is : (sent received : List Message) (message : Message)
    → is_untrue (fate_of sent received message) ≡ not (is_true sent message)
untrue_is sent received message =
    go (has_number sent message.hart message.number) (is_true sent message)
    (has_number (true_ones sent received) message.hart message.number)
    (has_greater (true_ones sent received) message.hart message.number) (true_is_known sent message)
  where
    go : (known same again greater : Bool) → (same ≡ true → known ≡ true)
        → is_untrue (chosen known same again greater) ≡ not same
    go true true true greater implied = refl
    go true true false true implied = refl
    go true true false false implied = refl
    go true false again greater implied = refl
    go false false again greater implied = refl
    go false true again greater implied = cc (implied refl)

module _ (sent received : List Message) (message : Message) where
  abbrev more : List Message
  more = received ++ message ∷ []

  counted : (hart other : ℕ)
      → moved sent more hart other ≡ moved sent received hart other + cond (is_moved sent hart other message) 1 0
  counted hart other = sum_by_push (λ (m : Message). cond (is_moved sent hart other m) 1 0) received message

  -- Where it is not one of a hart that is of another, the count stays.
  stays : (hart other : ℕ) → is_moved sent hart other message ≡ false
      → capped (moved sent received hart other) ≡ capped (moved sent more hart other)
  stays hart other is =
      ap capped (sym (counted hart other ∙ ap (λ b. moved sent received hart other + cond b 1 0) is
      ∙ add-zero (moved sent received hart other)))

  grows : (hart other : ℕ) → is_moved sent hart other message ≡ true
      → counted_once (capped (moved sent received hart other)) ≡ capped (moved sent more hart other)
  grows hart other is =
      capped_more _ _ (counted hart other ∙ ap (λ b. moved sent received hart other + cond b 1 0) is)

  all_stay : (harts : ℕ) → ((hart other : ℕ) → is_moved sent hart other message ≡ false)
      → all_moved sent received harts ≡ all_moved sent more harts
  all_stay harts none =
      same_on _ _ 0 harts (λ hart _. same_on _ _ 0 harts (λ other _. stays hart other (none hart other)))

  is_of : (hart other : ℕ) (is : Bool) (owner : Option ℕ) → is_true sent message ≡ is → owner_of sent message ≡ owner
      → is_moved sent hart other message ≡ (eqb message.hart hart && (not is && is_hart other owner))
  is_of hart other is owner same owned = λ i. eqb message.hart hart && (not (same i) && is_hart other (owned i))

  abbrev row : List Message → ℕ → ℕ → List ℕ
  row came harts hart = map (λ other. capped (moved sent came hart other)) (range_with_len 0 harts)

  -- The counts with one message more.
  pub moves_next : (harts : ℕ)
      → moves_if (not (is_true sent message)) (all_moved sent received harts) message.hart (owner_of sent message)
      ≡ all_moved sent more harts
  moves_next harts = go (is_true sent message) (owner_of sent message) refl refl
    where
      go : (is : Bool) (owner : Option ℕ) → is_true sent message ≡ is → owner_of sent message ≡ owner
          → moves_if (not is) (all_moved sent received harts) message.hart owner ≡ all_moved sent more harts
      go true owner same owned =
          all_stay harts (λ hart other. is_of hart other true owner same owned ∙ and_right (eqb message.hart hart) false refl)
      go false None same owned =
          all_stay harts (λ hart other. is_of hart other false None same owned ∙ and_right (eqb message.hart hart) false refl)
      go false (Some owner) same owned =
          changed_range (row received harts) (row more harts) (λ counts. changed_at counted_once counts owner) 0 harts
          message.hart
          (λ hart other. same_on _ _ 0 harts (λ one _. stays hart one
          (is_of hart one false (Some owner) same owned
          ∙ ap (λ b. b && eqb owner one) (ne_eqb message.hart hart (λ e. other (sym e ∙ sym (zero-add message.hart)))))))
          (at (0 + message.hart) (zero-add message.hart))
        where
          here : (hart one : ℕ) → hart ≡ message.hart → is_moved sent hart one message ≡ eqb owner one
          here hart one e =
              is_of hart one false (Some owner) same owned
              ∙ ap (λ b. b && eqb owner one) (eq-eqb message.hart hart (sym e))

          at : (hart : ℕ) → hart ≡ message.hart
              → changed_at counted_once (row received harts hart) owner ≡ row more harts hart
          at hart e =
              changed_range (λ other. capped (moved sent received hart other)) (λ other. capped (moved sent more hart other))
              counted_once 0 harts owner
              (λ one other. stays hart one (here hart one e
              ∙ ne_eqb owner one (λ is. other (sym is ∙ sym (zero-add owner)))))
              (grows hart (0 + owner) (here hart (0 + owner) e ∙ eq-eqb owner (0 + owner) (sym (zero-add owner))))

-- At first none is of another hart.
replicated : {A : Type 0} (one : A) (from count : ℕ) → replicate count one ≡ map (λ _. one) (range_with_len from count)
replicated one from zero = refl
replicated one from (suc count) = ap (λ rest. one ∷ rest) (replicated one (from + 1) count)

pub moves_start : (sent : List Message) (harts : ℕ) → none_moved harts ≡ all_moved sent [] harts
moves_start sent harts =
    ap (replicate harts) (replicated 0 0 harts) ∙ replicated (map (λ _. 0) (range_with_len 0 harts)) 0 harts

-- A hart that SENT has no message of owns none.
owns_none : (sent : List Message) (hart other : ℕ) (message : Message) → of_hart other sent ≡ []
    → is_moved sent hart other message ≡ false
owns_none sent hart other message none = go (owner_of sent message) refl
  where
    go : (owner : Option ℕ) → owner_of sent message ≡ owner
        → (eqb message.hart hart && (not (is_true sent message) && is_hart other owner)) ≡ false
    go None is = and_right (eqb message.hart hart) _ (and_right (not (is_true sent message)) false refl)
    go (Some owner) is =
        ap (λ b. eqb message.hart hart && (not (is_true sent message) && b)) (ne_eqb owner other clash)
        ∙ and_right (eqb message.hart hart) _ (and_right (not (is_true sent message)) false refl)
      where
        clash : owner ≡ other → ⊥
        clash e =
            let has = only_passes (has_of sent message) (range_with_len 0 (harts_in sent)) owner is in
            let not_has = none_of sent message other none in
            cc (sym (ap (has_of sent message) e ∙ not_has) ∙ has)

none_moved_to : (sent : List Message) (hart other : ℕ) → of_hart other sent ≡ [] → (received : List Message)
    → moved sent received hart other ≡ 0
none_moved_to sent hart other none [] = refl
none_moved_to sent hart other none (message ∷ received) =
    sum_by-cons (λ (m : Message). cond (is_moved sent hart other m) 1 0) message received
    ∙ (λ i. cond (owns_none sent hart other message none i) 1 0 + none_moved_to sent hart other none received i)

-- Counts of 0 change nothing.
none_exchanged : (f : ℕ → ℕ) (from count all : ℕ) → ((x : ℕ) → from ≤ x → f x ≡ 0)
    → first_exchanged from all (map f (range_with_len from count)) ≡ None
none_exchanged f from zero all none = refl
none_exchanged f from (suc count) all none =
    ap (λ n. cond (is_most n all) (Some (record { hart = from; count = n }))
    (first_exchanged (from + 1) all (map f (range_with_len (from + 1) count)))) (none from (omega arith))
    ∙ none_exchanged f (from + 1) count all (λ x low. none x (omega (arith, low)))

exchanged_below : (f : ℕ → ℕ) (from count most all : ℕ) → count ≤ most → ((x : ℕ) → from + count ≤ x → f x ≡ 0)
    → first_exchanged from all (map f (range_with_len from most))
    ≡ first_exchanged from all (map f (range_with_len from count))
exchanged_below f from zero most all within none = none_exchanged f from most all (λ x past. none x (omega (arith, past)))
exchanged_below f from (suc count) zero all within none = absurd (omega (arith, within))
exchanged_below f from (suc count) (suc most) all within none =
    ap (λ rest. cond (is_most (f from) all) (Some (record { hart = from; count = f from })) rest)
    (exchanged_below f (from + 1) count most all (omega (arith, within)) (λ x past. none x (omega (arith, past))))

-- The counts that are kept say which hart it is.
pub exchanged_is : (sent received : List Message) (hart harts : ℕ)
    → ((other : ℕ) → harts ≤ other → of_hart other sent ≡ []) → length received < 2 ^ 64
    → first_exchanged 0 (untrue sent received hart)
    (map (λ other. capped (moved sent received hart other)) (range_with_len 0 harts))
    ≡ exchanged sent received hart
exchanged_is sent received hart harts others few =
    let all = untrue sent received hart in
    let count = moved sent received hart in
    ap (first_exchanged 0 all) (same_on _ _ 0 harts (λ other _. exact other))
    ∙ sym (exchanged_below count 0 harts (max harts (harts_in sent)) all (omega arith)
    (λ other past. none_moved_to sent hart other (others other (omega (arith, past))) received))
    ∙ exchanged_below count 0 (harts_in sent) (max harts (harts_in sent)) all (omega arith)
    (λ other past. none_moved_to sent hart other (none_above other sent (omega (arith, past))) received)
  where
    exact : (other : ℕ) → capped (moved sent received hart other) ≡ moved sent received hart other
    exact other =
        let within = count_by-le-length (is_moved sent hart other) received in
        omega (arith, few, within)
