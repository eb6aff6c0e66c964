-- A message of RECEIVED that is in view is taken.
use Rattle.std.proofs.Common.{◌≡◌, ◌⊎◌, inl, inr, ℕ, zero, suc, ◌+◌, ◌<◌, ◌≤◌, Bool, true, false, cond, ltb}
use Rattle.std.proofs.Common.{eqb, List, [], ◌∷◌, ◌++◌, Option, Some, None, drop, map, set, slice_get}
use Rattle.std.proofs.Common.{refl, sym, ap, subst, ◌∙◌, arith}
use Rattle.std.specs.Prelude.{◌&&◌, ◌||◌, max}
use Rattle.std.specs.List.{list_any}
use Rattle.std.specs.Str.{bytes_eq}
use Rattle.std.proofs.lemmas.Bool.{and_from, and_left, cases_lt, eq-eqb, le-ltb, lt-ltb}
use Rattle.std.proofs.lemmas.Bool.{or_left, or_right, false_from_ne_true}
use Rattle.std.proofs.lemmas.List.Folds.{list_any-append}
use Rattle.message.specs.declared.message.Message.{Message}
use Rattle.auditing.proofs.Appending.{or_false}
use Rattle.auditing.proofs.SentLemmas.{next_of_hart}
use Rattle.auditing.specs.Audits.{number_after}
use Rattle.auditing.specs.Fates.{has_greater, has_number, is_numbered, is_same}
use Rattle.auditing.specs.Findings.{at_least, greatest_number}
use Rattle.auditing.specs.Sent.{AreInTurn}
use Rattle.live.specs.Live.{held}
use Rattle.live.specs.View.{standing_from}
use Rattle.live.specs.declared.held.SentMessage.{SentMessage}
use Rattle.live.specs.declared.standing.Standing.TheVariants as standing
use Rattle.live.proofs.Standings.{is_one, none_again, numbered_is, one_more}

-- What is found at a place stands there.
pub stands_where : (messages : List Message) (place hart number k : ℕ)
    → standing_from place messages hart number ≡ standing.At k
    → (j : ℕ) × (k ≡ place + j) × (is_one hart number (slice_get messages j) ≡ true)
stands_where [] place hart number k is = cc
stands_where (first ∷ messages) place hart number k is =
    go (is_numbered hart number first) refl (λ at. stands_where messages (place + 1) hart number k at) is
  where
    go : (here : Bool) → is_numbered hart number first ≡ here
        → (standing_from (place + 1) messages hart number ≡ standing.At k
        → (j : ℕ) × (k ≡ place + 1 + j) × (is_one hart number (slice_get messages j) ≡ true))
        → cond here (standing.At place) (standing_from (place + 1) messages hart number) ≡ standing.At k
        → (j : ℕ) × (k ≡ place + j) × (is_one hart number (slice_get (first ∷ messages) j) ≡ true)
    go true own later at = (0, (let same : place ≡ k = cc in omega (arith, same)), own)
    go false other later at =
        let found = later at in
        (suc found.0, (let is = found.1 in omega (arith, is)), found.2)

-- A place after some messages.
pub slice_get-drop : (messages : List Message) (count k : ℕ)
    → slice_get (drop count messages) k ≡ slice_get messages (count + k)
slice_get-drop messages zero k = ap (slice_get messages) (omega arith)
slice_get-drop [] (suc count) k = refl
slice_get-drop (first ∷ messages) (suc count) k =
    slice_get-drop messages count k ∙ ap (slice_get (first ∷ messages)) (let is : suc (count + k) ≡ suc count + k = omega arith in is)

-- The hart of a message is known.
pub within_harts : (harts : ℕ) (before messages : List Message) → AreInTurn harts before messages
    → (k : ℕ) (message : Message) → slice_get messages k ≡ Some message → message.hart < harts
within_harts harts before [] turn k message is = cc
within_harts harts before (first ∷ messages) turn zero message is =
    let same : first ≡ message = cc in
    subst (λ (m : Message). m.hart < harts) same (next_of_hart harts before first turn.0).0
within_harts harts before (first ∷ messages) turn (suc k) message is =
    within_harts harts (before ++ first ∷ []) messages turn.1 k message is

-- Some message passes a test that one at a place passes.
pub any_at : (test : Message → Bool) (messages : List Message) (k : ℕ) (message : Message)
    → slice_get messages k ≡ Some message → test message ≡ true → list_any test messages ≡ true
any_at test [] k message is passes = cc
any_at test (first ∷ messages) zero message is passes =
    let same : first ≡ message = cc in
    or_left (test first) (list_any test messages) (ap test same ∙ passes)
any_at test (first ∷ messages) (suc k) message is passes =
    or_right (test first) (list_any test messages) (any_at test messages k message is passes)

-- None passes a test that only those with a number pass, where none has the number.
none_any : (test : Message → Bool) (hart number : ℕ)
    → ((one : Message) → is_numbered hart number one ≡ false → test one ≡ false) → (messages : List Message)
    → ((k : ℕ) → is_one hart number (slice_get messages k) ≡ false) → list_any test messages ≡ false
none_any test hart number fails [] none = refl
none_any test hart number fails (first ∷ messages) none =
    (λ i. fails first (none 0) i || none_any test hart number fails messages (λ k. none (suc k)) i)

-- Among messages each of which is the next one of its hart, such a test is that of the one with the number.
pub only_one : (harts : ℕ) (before messages : List Message) → AreInTurn harts before messages
    → (test : Message → Bool) (hart number : ℕ)
    → ((one : Message) → is_numbered hart number one ≡ false → test one ≡ false)
    → (k : ℕ) (message : Message) → slice_get messages k ≡ Some message → is_numbered hart number message ≡ true
    → list_any test messages ≡ test message
only_one harts before [] turn test hart number fails k message is own = cc
only_one harts before (first ∷ messages) turn test hart number fails zero message is own =
    let same : first ≡ message = cc in
    ap (λ b. test first || b)
    (none_any test hart number fails messages (λ k.
    false_from_ne_true (is_one hart number (slice_get messages k))
    (none_again harts (before ++ first ∷ []) messages turn.1 hart number
    (let more = one_more harts before first hart number (next_of_hart harts before first turn.0).1
    (ap (is_numbered hart number) same ∙ own) in omega (arith, more)) k)))
    ∙ or_false (test first)
    ∙ ap test same
only_one harts before (first ∷ messages) turn test hart number fails (suc k) message is own =
    ap (λ b. b || list_any test messages)
    (fails first (false_from_ne_true (is_numbered hart number first) (λ here.
    none_again harts (before ++ first ∷ []) messages turn.1 hart number
    (let more = one_more harts before first hart number (next_of_hart harts before first turn.0).1 here in
    omega (arith, more)) k (ap (is_one hart number) is ∙ own))))
    ∙ only_one harts (before ++ first ∷ []) messages turn.1 test hart number fails k message is own

-- Only those with its number are the same as a message.
pub same_numbered : (message one : Message) → is_numbered message.hart message.number one ≡ false
    → is_same message one ≡ false
same_numbered message one other =
    and_left (is_numbered message.hart message.number one) (bytes_eq message.payload one.payload) other

-- One of these has a greater number where the number after the greatest of them is greater.
after_greater : (number : ℕ) (other : Option ℕ) → at_least number other + 1 ≡ max (number + 1) (number_after other)
after_greater number None = omega arith
after_greater number (Some other) = omega arith

either_above : (number one past : ℕ) → (ltb number one || ltb (number + 1) past) ≡ ltb (number + 1) (max (one + 1) past)
either_above number one past = go (cases_lt number one) (cases_lt (number + 1) past)
  where
    go : (number < one) ⊎ (one ≤ number) → (number + 1 < past) ⊎ (past ≤ number + 1)
        → (ltb number one || ltb (number + 1) past) ≡ ltb (number + 1) (max (one + 1) past)
    go (inl above) low =
        or_left (ltb number one) (ltb (number + 1) past) (lt-ltb number one above)
        ∙ sym (lt-ltb (number + 1) (max (one + 1) past) (omega (arith, above)))
    go (inr below) (inl above) =
        or_right (ltb number one) (ltb (number + 1) past) (lt-ltb (number + 1) past above)
        ∙ sym (lt-ltb (number + 1) (max (one + 1) past) (omega (arith, above)))
    go (inr below) (inr low) =
        (λ i. le-ltb number one below i || le-ltb (number + 1) past low i)
        ∙ sym (le-ltb (number + 1) (max (one + 1) past) (omega (arith, below, low)))

pub greater_past : (messages : List Message) (hart number : ℕ)
    → has_greater messages hart number ≡ ltb (number + 1) (number_after (greatest_number messages hart))
greater_past [] hart number = sym (le-ltb (number + 1) 0 (omega arith))
greater_past (first ∷ messages) hart number = go (eqb first.hart hart) (greater_past messages hart number)
  where
    go : (own : Bool)
        → has_greater messages hart number ≡ ltb (number + 1) (number_after (greatest_number messages hart))
        → ((own && ltb number first.number) || has_greater messages hart number)
        ≡ ltb (number + 1) (number_after (cond own (Some (at_least first.number (greatest_number messages hart)))
        (greatest_number messages hart)))
    go false rest = rest
    go true rest =
        ap (λ b. ltb number first.number || b) rest
        ∙ either_above number first.number (number_after (greatest_number messages hart))
        ∙ ap (ltb (number + 1)) (sym (after_greater first.number (greatest_number messages hart)))

-- The flags of messages of which one more came.
module _ (trues : List Message) (message : Message) where
  -- The flag of a message with another number stays, and so does that of each, where its number came before.
  pub flag_of : (one : Message)
      → has_number (trues ++ message ∷ []) one.hart one.number
      ≡ (has_number trues one.hart one.number || is_numbered one.hart one.number message)
  flag_of one =
      list_any-append (is_numbered one.hart one.number) trues (message ∷ [])
      ∙ ap (λ b. has_number trues one.hart one.number || b) (or_false (is_numbered one.hart one.number message))

  as_held : (one : Message) → has_number (trues ++ message ∷ []) one.hart one.number ≡ has_number trues one.hart one.number
      → held (trues ++ message ∷ []) one ≡ held trues one
  as_held one same = let P : Bool → SentMessage = λ b. record { message = one; came = b } in ap P same

  pub flags_stay : has_number trues message.hart message.number ≡ true → (messages : List Message)
      → map (held (trues ++ message ∷ [])) messages ≡ map (held trues) messages
  flags_stay came [] = refl
  flags_stay came (one ∷ messages) =
      (λ i. as_held one (flag_of one ∙ go (is_numbered one.hart one.number message) refl) i ∷ flags_stay came messages i)
    where
      go : (its : Bool) → is_numbered one.hart one.number message ≡ its
          → (has_number trues one.hart one.number || its) ≡ has_number trues one.hart one.number
      go false other = or_false (has_number trues one.hart one.number)
      go true own =
          let its = numbered_is one.hart one.number message own in
          let has : has_number trues one.hart one.number ≡ true =
          ap (λ h. has_number trues h one.number) (sym its.0)
          ∙ ap (λ n. has_number trues message.hart n) (sym its.1) ∙ came in
          ap (λ b. b || true) has ∙ sym has

  -- Where none of the messages has its number, the flags stay too.
  flags_beside : (messages : List Message)
      → ((k : ℕ) → is_one message.hart message.number (slice_get messages k) ≡ false)
      → map (held trues) messages ≡ map (held (trues ++ message ∷ [])) messages
  flags_beside [] none = refl
  flags_beside (one ∷ messages) none =
      (λ i. sym (as_held one
      (flag_of one ∙ ap (λ b. has_number trues one.hart one.number || b) (unlike one (none 0))
      ∙ or_false (has_number trues one.hart one.number))) i ∷ flags_beside messages (λ k. none (suc k)) i)
    where
      unlike : (one : Message) → is_numbered message.hart message.number one ≡ false
          → is_numbered one.hart one.number message ≡ false
      unlike one other = false_from_ne_true (is_numbered one.hart one.number message) (λ is.
          let its = numbered_is one.hart one.number message is in
          let own = and_from (eqb one.hart message.hart) (eqb one.number message.number)
          (eq-eqb one.hart message.hart (sym its.0)) (eq-eqb one.number message.number (sym its.1)) in cc)

  -- The flag of the message with its number is set.
  pub marked : (harts : ℕ) (before messages : List Message) → AreInTurn harts before messages
      → (k : ℕ) (one : Message) → slice_get messages k ≡ Some one
      → is_numbered message.hart message.number one ≡ true
      → set (map (held trues) messages) k (record { message = one; came = true })
      ≡ map (held (trues ++ message ∷ [])) messages
  marked harts before [] turn k one at own = cc
  marked harts before (first ∷ messages) turn zero one at own =
      let same : first ≡ one = cc in
      let here = ap (is_numbered message.hart message.number) same ∙ own in
      let its = numbered_is message.hart message.number first here in
      let set_flag : has_number (trues ++ message ∷ []) first.hart first.number ≡ true = flag_of first
      ∙ or_right (has_number trues first.hart first.number) (is_numbered first.hart first.number message)
      (and_from (eqb message.hart first.hart) (eqb message.number first.number)
      (eq-eqb message.hart first.hart (sym its.0)) (eq-eqb message.number first.number (sym its.1))) in
      let P : Bool → SentMessage = λ b. record { message = first; came = b } in
      let Q : Message → SentMessage = λ m. record { message = m; came = true } in
      (λ i. (ap Q (sym same) ∙ ap P (sym set_flag)) i
      ∷ flags_beside messages (λ k.
      false_from_ne_true (is_one message.hart message.number (slice_get messages k))
      (none_again harts (before ++ first ∷ []) messages turn.1 message.hart message.number
      (let more = one_more harts before first message.hart message.number
      (next_of_hart harts before first turn.0).1 here in omega (arith, more)) k)) i)
  marked harts before (first ∷ messages) turn (suc k) one at own =
      (λ i. sym (as_held first (flag_of first
      ∙ ap (λ b. has_number trues first.hart first.number || b) unlike
      ∙ or_false (has_number trues first.hart first.number))) i
      ∷ marked harts (before ++ first ∷ []) messages turn.1 k one at own i)
    where
      unlike : is_numbered first.hart first.number message ≡ false
      unlike = false_from_ne_true (is_numbered first.hart first.number message) (λ is.
          let its = numbered_is first.hart first.number message is in
          let here = and_from (eqb first.hart message.hart) (eqb first.number message.number)
          (eq-eqb first.hart message.hart (sym its.0)) (eq-eqb first.number message.number (sym its.1)) in
          none_again harts (before ++ first ∷ []) messages turn.1 message.hart message.number
          (let more = one_more harts before first message.hart message.number
          (next_of_hart harts before first turn.0).1 here in omega (arith, more)) k
          (ap (is_one message.hart message.number) at ∙ own))
