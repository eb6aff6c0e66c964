-- A hart is whole exactly where nothing befell its messages.
use Rattle.std.proofs.Common.{◌≡◌, ◌⊎◌, inl, inr, ℕ, suc, ◌+◌, ◌<◌, ◌≤◌, Bool, true, false, cond, eqb, ltb, List, []}
use Rattle.std.proofs.Common.{◌∷◌, ◌++◌, Option, Some, None, length, map, drop, slice_get, refl, sym, ap, subst, ◌∙◌}
use Rattle.std.proofs.Common.{arith, zero-add, drop-cons}
use Rattle.std.specs.Prelude.{◌&&◌, ◌||◌, not}
use Rattle.std.specs.List.{filter, list_any}
use Rattle.std.specs.Str.{bytes_eq}
use Rattle.std.proofs.lemmas.Bool.{and_from, and_left, and_parts, and_right, cases_eq, cases_lt, eq-eqb, eqb-true}
use Rattle.std.proofs.lemmas.Bool.{false_from_ne_true, le-ltb, lt-ltb, ne_eqb, not-false, or_from, or_left, or_parts}
use Rattle.std.proofs.lemmas.Bool.{or_right, true≢false}
use Rattle.std.proofs.lemmas.List.{append_assoc}
use Rattle.std.proofs.lemmas.List.Folds.{list_any-append}
use Rattle.std.proofs.lemmas.Option.{slice_get_within, get_or_from_slice_get}
use Rattle.std.proofs.lemmas.Slice.Eq.{bytes_eq-Decides}
use Rattle.std.proofs.Math.ListN.{drop_of_length-le}
use Rattle.message.proofs.OfHartLemmas.{of_hart-append, of_hart-others, of_hart-own}
use Rattle.message.specs.Numbered.{messages_from}
use Rattle.message.specs.OfHart.{of_hart}
use Rattle.message.specs.declared.message.Message.{Message}
use Rattle.auditing.proofs.Appending.{any-next, any_weaker}
use Rattle.auditing.proofs.OwnMessages.{any_of_hart, fits, same_in}
use Rattle.auditing.proofs.PushLemmas.{cons_parts}
use Rattle.auditing.proofs.TakingLemmas.{chosen, has_its_number, of_its_hart, true_is_known}
use Rattle.auditing.specs.Fates.{fate_of, has_greater, has_number, is_numbered, is_same, is_true, true_ones}
use Rattle.auditing.specs.Judged.{Judged, is_fate, judged_behind, judged_one}
use Rattle.auditing.specs.Untouched.{IsUntouched, is_touched}
use Rattle.auditing.specs.declared.fate.Fate.TheVariants as fate

-- What is true, is of this hart and has this number is one of the true ones.
any_both : {X : Type 0} (p q : X → Bool) (xs : List X)
    → list_any p (filter q xs) ≡ list_any (λ x. q x && p x) xs
any_both p q [] = refl
any_both p q (x ∷ xs) = go (any_both p q xs) (q x)
  where
    go : list_any p (filter q xs) ≡ list_any (λ x. q x && p x) xs → (kept : Bool)
        → list_any p (cond kept (x ∷ filter q xs) (filter q xs)) ≡ ((kept && p x) || list_any (λ x. q x && p x) xs)
    go rest true = ap (λ b. p x || b) rest
    go rest false = rest

-- What some that a filter keeps pass, some pass.
any_kept : {X : Type 0} (p q : X → Bool) (xs : List X) → list_any p (filter q xs) ≡ true → list_any p xs ≡ true
any_kept p q xs is =
    any_weaker (λ x. q x && p x) p (λ x passed. (and_parts (q x) (p x) passed).1) xs (sym (any_both p q xs) ∙ is)

-- An element that is found stands in front of what is behind it.
drop_at : {X : Type 0} (xs : List X) (n : ℕ) (x : X) → slice_get xs n ≡ Some x → drop n xs ≡ x ∷ drop (suc n) xs
drop_at xs n x is =
    drop-cons xs n x (slice_get_within xs n x is) ∙ ap (λ y. y ∷ drop (suc n) xs) (get_or_from_slice_get xs n x x is)

-- The message is numbered by how many stand in front of it. None of those has its number or a greater one.
record Placed (hart start number : ℕ) (payloads : List (List ℕ)) (front : List Message) (message : Message)
    : Type 0 where
  hart_is : message.hart ≡ hart
  number_is : message.number ≡ number
  payload_is : slice_get payloads (length front) ≡ Some message.payload
  unlike : list_any (is_numbered hart number) front ≡ false
  lower : list_any (λ (m : Message). eqb m.hart hart && ltb number m.number) front ≡ false

placed : (hart start number : ℕ) (payloads : List (List ℕ)) (front : List Message) (message : Message)
    (back : List Message) → number ≡ start + length front
    → front ++ message ∷ back ≡ messages_from hart start payloads
    → Placed hart start number payloads front message
placed hart start number [] [] message back at same = cc
placed hart start number [] (first ∷ front) message back at same = cc
placed hart start number (payload ∷ payloads) [] message back at same =
    let first : Message = record { hart = hart; number = start; payload = payload } in
    let is = (cons_parts message first back (messages_from hart (start + 1) payloads) same).0 in
    record {
      hart_is = ap (λ (m : Message). m.hart) is;
      number_is = ap (λ (m : Message). m.number) is ∙ omega (arith, at);
      payload_is = ap (λ (m : Message). Some m.payload) (sym is);
      unlike = refl;
      lower = refl;
    }
placed hart start number (payload ∷ payloads) (one ∷ front) message back at same =
    let first : Message = record { hart = hart; number = start; payload = payload } in
    let split =
    cons_parts one first (front ++ message ∷ back) (messages_from hart (start + 1) payloads) same in
    let number_is : one.number ≡ start = ap (λ (m : Message). m.number) split.0 in
    let rest = placed hart (start + 1) number payloads front message back (omega (arith, at)) split.1 in
    record {
      hart_is = rest.hart_is;
      number_is = rest.number_is;
      payload_is = rest.payload_is;
      unlike = or_from _ _
          (and_right _ _ (ne_eqb one.number number (λ e. omega (arith, e, number_is, at)))) rest.unlike;
      lower = or_from _ _ (and_right _ _ (le-ltb number one.number (omega (arith, number_is, at)))) rest.lower;
    }

-- A message that is in order is true, no true one before has its number, and none a greater one.
in_order_is : (known same again greater : Bool) → is_fate fate.InOrder (chosen known same again greater) ≡ true
    → (same ≡ true) × (again ≡ false) × (greater ≡ false)
in_order_is false same again greater is = absurd (true≢false (sym is))
in_order_is true false again greater is = absurd (true≢false (sym is))
in_order_is true true true greater is = absurd (true≢false (sym is))
in_order_is true true false true is = absurd (true≢false (sym is))
in_order_is true true false false is = (refl, refl, refl)

-- A message of the hart with no other fate is in order.
untouched_one : (hart : ℕ) (one : Judged) → is_touched hart one ≡ false → one.message.hart ≡ hart
    → is_fate fate.InOrder one.fate ≡ true
untouched_one hart one none its =
    not-false (is_fate fate.InOrder one.fate)
    (sym (ap (λ b. b && not (is_fate fate.InOrder one.fate)) (eq-eqb one.message.hart hart its)) ∙ none)

-- What all are not lost is marked.
all_marked : (marked : ℕ → Bool) (hart start : ℕ) (payloads : List (List ℕ))
    → filter (λ number. not (marked number))
    (map (λ (message : Message). message.number) (messages_from hart start payloads)) ≡ []
    → (number : ℕ) → start ≤ number → number < start + length payloads → marked number ≡ true
all_marked marked hart start [] none number from below = absurd (omega (arith, from, below))
all_marked marked hart start (payload ∷ payloads) none number from below =
    go (λ gone above. all_marked marked hart (start + 1) payloads gone number above (omega (arith, below)))
    (marked start) refl none
  where
    rest : List ℕ
    rest = filter (λ number. not (marked number))
        (map (λ (message : Message). message.number) (messages_from hart (start + 1) payloads))

    go : (rest ≡ [] → start + 1 ≤ number → marked number ≡ true) → (is : Bool) → marked start ≡ is
        → cond (not is) (start ∷ rest) rest ≡ [] → marked number ≡ true
    go later false is gone = cc
    go later true is gone =
        elim (cases_eq start number) [
          | inl same ↦ sym (ap marked same) ∙ is
          | inr other ↦ later gone (above_it other)
        ]
      where
        above_it : (start ≡ number → ⊥) → start + 1 ≤ number
        above_it other = omega (arith, from, other)

module _ (sent : List Message) (hart : ℕ) (payloads : List (List ℕ))
    (own : of_hart hart sent ≡ messages_from hart 0 payloads) where
  -- A message of the hart is true exactly where its payload is the one with its number.
  true_by : (message : Message) → message.hart ≡ hart
      → is_true sent message ≡ fits message.payload (slice_get payloads message.number)
  true_by message its =
      any_of_hart hart (is_same message)
      (λ other is. ap (λ h. eqb other.hart h) (sym its)
      ∙ of_its_hart message.hart message.number other (has_its_number message other is)) sent
      ∙ ap (list_any (is_same message)) own
      ∙ ap (λ h. list_any (is_same message) (messages_from h 0 payloads)) (sym its)
      ∙ same_in 0 payloads message.number message (zero-add message.number)

  -- A true message is the one that was sent.
  its_payload : (payload : List ℕ) (found : Option (List ℕ)) → fits payload found ≡ true → found ≡ Some payload
  its_payload payload None is = cc
  its_payload payload (Some other) is =
      ap Some (sym ((bytes_eq-Decides payload other).0 is))

  pub sent_payload : (message : Message) → message.hart ≡ hart → is_true sent message ≡ true
      → slice_get payloads message.number ≡ Some message.payload
  sent_payload message its is =
      its_payload message.payload (slice_get payloads message.number) (sym (true_by message its) ∙ is)

  pub is_sent : (message : Message) → message.hart ≡ hart → slice_get payloads message.number ≡ Some message.payload
      → is_true sent message ≡ true
  is_sent message its at =
      true_by message its ∙ ap (fits message.payload) at ∙ same_bytes message.payload
    where
      same_bytes : (xs : List ℕ) → bytes_eq xs xs ≡ true
      same_bytes xs = (bytes_eq-Decides xs xs).1 refl

  -- A message among others that are just those that were sent is true, and in order.
  true_at : (before later : List Message) (message : Message) → message.hart ≡ hart
      → of_hart hart (before ++ message ∷ later) ≡ messages_from hart 0 payloads
      → Placed hart 0 (length (of_hart hart before)) payloads (of_hart hart before) message
  true_at before later message its same =
      placed hart 0 (length (of_hart hart before)) payloads (of_hart hart before) message (of_hart hart later)
      (sym (zero-add (length (of_hart hart before))))
      (sym (of_hart-append hart before (message ∷ later)
      ∙ ap (λ l. of_hart hart before ++ l)
      (ap (λ h. of_hart h (message ∷ later)) (sym its) ∙ of_hart-own message later
      ∙ ap (λ h. message ∷ of_hart h later) its)) ∙ same)

  is_true_at : (before later : List Message) (message : Message) → message.hart ≡ hart
      → of_hart hart (before ++ message ∷ later) ≡ messages_from hart 0 payloads → is_true sent message ≡ true
  is_true_at before later message its same =
      let at = true_at before later message its same in
      is_sent message its (ap (slice_get payloads) at.number_is ∙ at.payload_is)

  -- What none of the hart's messages passes, none of the true ones passes.
  none_true : (test : Message → Bool) → ((m : Message) → test m ≡ true → eqb m.hart hart ≡ true)
      → (before : List Message) → list_any test (of_hart hart before) ≡ false
      → list_any test (true_ones sent before) ≡ false
  none_true test its before none =
      false_from_ne_true (list_any test (true_ones sent before))
      (λ some. true≢false (sym (any_kept test (is_true sent) before some)
      ∙ any_of_hart hart test its before ∙ none))

  in_order_at : (before later : List Message) (message : Message) → message.hart ≡ hart
      → of_hart hart (before ++ message ∷ later) ≡ messages_from hart 0 payloads
      → fate_of sent before message ≡ fate.InOrder
  in_order_at before later message its same =
      let at = true_at before later message its same in
      let true_one = is_true_at before later message its same in
      let again : has_number (true_ones sent before) message.hart message.number ≡ false =
      ap (λ h. has_number (true_ones sent before) h message.number) its
      ∙ none_true (is_numbered hart message.number) (of_its_hart hart message.number) before
      (ap (λ n. list_any (is_numbered hart n) (of_hart hart before)) at.number_is ∙ at.unlike) in
      let greater : has_greater (true_ones sent before) message.hart message.number ≡ false =
      ap (λ h. has_greater (true_ones sent before) h message.number) its
      ∙ none_true (λ (m : Message). eqb m.hart hart && ltb message.number m.number)
      (λ m is. (and_parts (eqb m.hart hart) (ltb message.number m.number) is).0) before
      (ap (λ n. list_any (λ (m : Message). eqb m.hart hart && ltb n m.number) (of_hart hart before)) at.number_is
      ∙ at.lower) in
      λ i. chosen (true_is_known sent message true_one i) (true_one i) (again i) (greater i)

  -- So nothing of the hart is touched.
  none_touched : (before messages : List Message)
      → of_hart hart (before ++ messages) ≡ messages_from hart 0 payloads
      → list_any (is_touched hart) (judged_behind sent before messages) ≡ false
  none_touched before [] same = refl
  none_touched before (message ∷ messages) same =
      or_from (is_touched hart (judged_one sent before message))
      (list_any (is_touched hart) (judged_behind sent (before ++ message ∷ []) messages))
      (go (cases_eq message.hart hart))
      (none_touched (before ++ message ∷ []) messages
      (ap (of_hart hart) (append_assoc before (message ∷ []) messages) ∙ same))
    where
      go : (message.hart ≡ hart) ⊎ (message.hart ≡ hart → ⊥)
          → is_touched hart (judged_one sent before message) ≡ false
      go (inl its) = and_right (eqb message.hart hart) _
          (ap (λ f. not (is_fate fate.InOrder f)) (in_order_at before messages message its same))
      go (inr other) = and_left _ (not (is_fate fate.InOrder (fate_of sent before message)))
          (ne_eqb message.hart hart other)

  -- A true message that came is one of the true ones.
  comes_true : (before later : List Message) (message : Message) → message.hart ≡ hart
      → is_true sent message ≡ true
      → has_number (true_ones sent (before ++ message ∷ later)) hart message.number ≡ true
  comes_true before later message its is =
      any_both (is_numbered hart message.number) (is_true sent) (before ++ message ∷ later)
      ∙ list_any-append test before (message ∷ later)
      ∙ or_right (list_any test before) (list_any test (message ∷ later))
      (or_left (test message) (list_any test later)
      (and_from _ _ is (and_from _ _ (eq-eqb message.hart hart its) (eq-eqb message.number message.number refl))))
    where
      test : Message → Bool
      test m = is_true sent m && is_numbered hart message.number m

  -- And no number of the hart is lost.
  none_missing : (before messages : List Message)
      → of_hart hart (before ++ messages) ≡ messages_from hart 0 payloads
      → filter (λ number. not (has_number (true_ones sent (before ++ messages)) hart number))
      (map (λ (message : Message). message.number) (of_hart hart messages)) ≡ []
  none_missing before [] same = refl
  none_missing before (message ∷ messages) same =
      go (none_missing (before ++ message ∷ []) messages
      (ap (of_hart hart) (append_assoc before (message ∷ []) messages) ∙ same)) (eqb message.hart hart) refl
    where
      f : ℕ → Bool
      f number = not (has_number (true_ones sent (before ++ message ∷ messages)) hart number)

      moved : filter (λ number. not (has_number (true_ones sent ((before ++ message ∷ []) ++ messages)) hart number))
          (map (λ (m : Message). m.number) (of_hart hart messages)) ≡ []
          → filter f (map (λ (m : Message). m.number) (of_hart hart messages)) ≡ []
      moved rest = subst
          (λ all. filter (λ number. not (has_number (true_ones sent all) hart number))
          (map (λ (m : Message). m.number) (of_hart hart messages)) ≡ [])
          (append_assoc before (message ∷ []) messages) rest

      go : filter (λ number. not (has_number (true_ones sent ((before ++ message ∷ []) ++ messages)) hart number))
          (map (λ (m : Message). m.number) (of_hart hart messages)) ≡ []
          → (own : Bool) → eqb message.hart hart ≡ own
          → filter f (map (λ (m : Message). m.number)
          (cond own (message ∷ of_hart hart messages) (of_hart hart messages))) ≡ []
      go rest false is = moved rest
      go rest true is =
          let its = eqb-true message.hart hart is in
          let here : f message.number ≡ false =
          ap not (comes_true before messages message its (is_true_at before messages message its same)) in
          ap (λ b. cond b (message.number ∷ filter f (map (λ (m : Message). m.number) (of_hart hart messages)))
          (filter f (map (λ (m : Message). m.number) (of_hart hart messages)))) here ∙ moved rest

  pub untouched : (received : List Message) → of_hart hart received ≡ of_hart hart sent
      → IsUntouched sent received hart
  untouched received same = record {
    none_lost = ap (λ (messages : List Message).
        filter (λ number. not (has_number (true_ones sent received) hart number))
        (map (λ (message : Message). message.number) messages)) (sym same) ∙ none_missing [] received (same ∙ own);
    in_order = none_touched [] received (same ∙ own);
  }

  -- Where a true one with a greater number came, none of this number is in order.
  never_later : (low : ℕ) (before messages : List Message) → has_greater (true_ones sent before) hart low ≡ true
      → list_any (is_touched hart) (judged_behind sent before messages) ≡ false
      → list_any (is_numbered hart low) messages ≡ false
  never_later low before [] greater none = refl
  never_later low before (message ∷ messages) greater none =
      or_from (is_numbered hart low message) (list_any (is_numbered hart low) messages)
      (false_from_ne_true (is_numbered hart low message) never)
      (never_later low (before ++ message ∷ []) messages still (or_parts _ _ none).1)
    where
      still : has_greater (true_ones sent (before ++ message ∷ [])) hart low ≡ true
      still =
          any-next (λ (m : Message). eqb m.hart hart && ltb low m.number) sent before message
          ∙ or_left (has_greater (true_ones sent before) hart low) _ greater

      never : is_numbered hart low message ≡ true → ⊥
      never is =
          let parts = and_parts (eqb message.hart hart) (eqb message.number low) is in
          let its = eqb-true message.hart hart parts.0 in
          let number = eqb-true message.number low parts.1 in
          let fate_is =
          untouched_one hart (judged_one sent before message) (or_parts _ _ none).0 its in
          let not_greater =
          (in_order_is (has_number sent message.hart message.number) (is_true sent message)
          (has_number (true_ones sent before) message.hart message.number)
          (has_greater (true_ones sent before) message.hart message.number) fate_is).2 in
          true≢false (sym greater
          ∙ ap (λ n. has_greater (true_ones sent before) hart n) (sym number)
          ∙ ap (λ h. has_greater (true_ones sent before) h message.number) (sym its)
          ∙ not_greater)

  -- Messages of which none is touched, where all lower numbers came and none from here on is lost, are the rest of
  -- those that were sent.
  rest_is : (low : ℕ) (before messages : List Message)
      → ((number : ℕ) → number < low → has_number (true_ones sent before) hart number ≡ true)
      → list_any (is_touched hart) (judged_behind sent before messages) ≡ false
      → ((number : ℕ) → low ≤ number → number < length payloads
      → list_any (is_numbered hart number) messages ≡ true)
      → of_hart hart messages ≡ messages_from hart low (drop low payloads)
  rest_is low before [] lower none all =
      ap (messages_from hart low) (sym (drop_of_length-le payloads (go (cases_lt low (length payloads)))))
    where
      go : (low < length payloads) ⊎ (length payloads ≤ low) → length payloads ≤ low
      go (inl some) = absurd (true≢false (sym (all low (omega arith) some)))
      go (inr past) = past
  rest_is low before (message ∷ messages) lower none all =
      go (λ next lower all. rest_is next (before ++ message ∷ []) messages lower (or_parts _ _ none).1 all)
      (cases_eq message.hart hart)
    where
      more : List Message
      more = before ++ message ∷ []

      -- What holds of the messages behind, from any number on.
      Behind : Type 0
      Behind = (next : ℕ) → ((number : ℕ) → number < next → has_number (true_ones sent more) hart number ≡ true)
          → ((number : ℕ) → next ≤ number → number < length payloads
          → list_any (is_numbered hart number) messages ≡ true)
          → of_hart hart messages ≡ messages_from hart next (drop next payloads)

      still : (number : ℕ) → number < low → has_number (true_ones sent more) hart number ≡ true
      still number below =
          any-next (is_numbered hart number) sent before message
          ∙ or_left (has_number (true_ones sent before) hart number) _ (lower number below)

      behind : (number : ℕ) → is_numbered hart number message ≡ false → low ≤ number → number < length payloads
          → list_any (is_numbered hart number) messages ≡ true
      behind number other from below =
          sym (ap (λ b. b || list_any (is_numbered hart number) messages) other) ∙ all number from below

      go : Behind → (message.hart ≡ hart) ⊎ (message.hart ≡ hart → ⊥)
          → of_hart hart (message ∷ messages) ≡ messages_from hart low (drop low payloads)
      go rest_from (inr other) =
          of_hart-others hart message messages other
          ∙ rest_from low still (λ number. behind number (and_left _ _ (ne_eqb message.hart hart other)))
      go rest_from (inl its) =
          λ i. (ap (λ h. of_hart h (message ∷ messages)) (sym its) ∙ of_hart-own message messages
          ∙ ap (λ h. message ∷ of_hart h messages) its ∙ whole) i
        where
          parts : (is_true sent message ≡ true)
              × (has_number (true_ones sent before) message.hart message.number ≡ false)
              × (has_greater (true_ones sent before) message.hart message.number ≡ false)
          parts =
              in_order_is (has_number sent message.hart message.number) (is_true sent message)
              (has_number (true_ones sent before) message.hart message.number)
              (has_greater (true_ones sent before) message.hart message.number)
              (untouched_one hart (judged_one sent before message) (or_parts _ _ none).0 its)

          payload_is : slice_get payloads message.number ≡ Some message.payload
          payload_is = sent_payload message its parts.0

          not_below : low ≤ message.number
          not_below = at (cases_lt message.number low)
            where
              at : (message.number < low) ⊎ (low ≤ message.number) → low ≤ message.number
              at (inl below) = absurd (true≢false (sym (lower message.number below)
                  ∙ ap (λ h. has_number (true_ones sent before) h message.number) (sym its) ∙ parts.1))
              at (inr above) = above

          not_above : message.number ≤ low
          not_above = at (cases_lt low message.number)
            where
              at : (low < message.number) ⊎ (message.number ≤ low) → message.number ≤ low
              at (inr below) = below
              at (inl above) =
                  let small = slice_get_within payloads message.number message.payload payload_is in
                  let later =
                  behind low
                  (and_right (eqb message.hart hart) (eqb message.number low)
                  (ne_eqb message.number low (λ e. omega (arith, e, above)))) (omega arith)
                  (omega (arith, small, above)) in
                  let greater : has_greater (true_ones sent more) hart low ≡ true =
                  any-next (λ (m : Message). eqb m.hart hart && ltb low m.number) sent before message
                  ∙ or_right (has_greater (true_ones sent before) hart low) _
                  (and_from _ _ parts.0 (and_from _ _ (eq-eqb message.hart hart its) (lt-ltb low message.number above)))
                  in
                  absurd (true≢false (sym later ∙ never_later low more messages greater (or_parts _ _ none).1))

          number_is : message.number ≡ low
          number_is = omega (arith, not_below, not_above)

          came : (number : ℕ) → number < suc low → has_number (true_ones sent more) hart number ≡ true
          came number below = at (cases_eq number low)
            where
              at : (number ≡ low) ⊎ (number ≡ low → ⊥) → has_number (true_ones sent more) hart number ≡ true
              at (inl same) =
                  ap (λ n. has_number (true_ones sent more) hart n) (same ∙ sym number_is)
                  ∙ comes_true before [] message its parts.0
              at (inr other) = still number (omega (arith, below, other))

          rest : of_hart hart messages ≡ messages_from hart (suc low) (drop (suc low) payloads)
          rest =
              rest_from (suc low) came
              (λ number from. behind number
              (and_right (eqb message.hart hart) (eqb message.number number)
              (ne_eqb message.number number (λ e. omega (arith, e, from, number_is)))) (omega (arith, from)))

          whole : message ∷ of_hart hart messages ≡ messages_from hart low (drop low payloads)
          whole =
              let split = drop_at payloads low message.payload (ap (slice_get payloads) (sym number_is) ∙ payload_is) in
              let next : suc low ≡ low + 1 = omega arith in
              let tail = rest ∙ ap (λ n. messages_from hart n (drop (suc low) payloads)) next in
              (λ i. record { hart = its i; number = number_is i; payload = message.payload } ∷ tail i)
              ∙ ap (messages_from hart low) (sym split)

  pub same_again : (received : List Message) → IsUntouched sent received hart
      → of_hart hart received ≡ of_hart hart sent
  same_again received is =
      rest_is 0 [] received (λ number below. absurd (omega (arith, below))) is.in_order all ∙ sym own
    where
      all : (number : ℕ) → 0 ≤ number → number < length payloads
          → list_any (is_numbered hart number) received ≡ true
      all number from below =
          any_kept (is_numbered hart number) (is_true sent) received
          (all_marked (has_number (true_ones sent received) hart) hart 0 payloads
          (ap (λ (messages : List Message).
          filter (λ number. not (has_number (true_ones sent received) hart number))
          (map (λ (message : Message). message.number) messages)) (sym own) ∙ is.none_lost) number from
          (omega (arith, below)))
