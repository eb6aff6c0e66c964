-- What bytes begin with, by the tests in their order.
use Rattle.std.proofs.Common.{◌≡◌, ◌<◌, ◌≤◌, ◌↔◌, ◌+◌, ◌-◌, ◌==◌, ◌||◌, ◌++◌, ℕ, zero, suc, Bool, true, false, nat_lt}
use Rattle.std.proofs.Common.{if◌then◌else◌, List, [], ◌∷◌, Option, Some, None, Result, Ok, Err, IfOk, IfSome, length}
use Rattle.std.proofs.Common.{take, drop, replicate, slice_index, refl, sym, ap, subst, ◌∙◌, arith, inl, inr}
use Rattle.std.proofs.Common.{◌⊎◌, take-append-drop, length-take-le}
use Rattle.std.proofs.lemmas.Bool.{ltb-true, ltb-false, le-ltb, eqb-true, eqb-false, ne_eqb, or_cases, or_parts}
use Rattle.std.proofs.lemmas.List.{length-append, length-drop, length-replicate, drop-drop, get_or-take}
use Rattle.std.proofs.lemmas.List.{nil_from_length}
use Rattle.std.proofs.lemmas.List.{get_or_append_left}
use lib.Seq.{take-append_seam}
use Rattle.message.specs.Capture.{message_bytes}
use Rattle.message.specs.Cut.{HasBadLength, IsCut, IsMessage, IsBadLength}
use Rattle.message.specs.steps.Filling.{AreBytes}
use Rattle.message.specs.steps.Front.{message_of, first_message}
use Rattle.message.specs.declared.message.Message.{Message}
use Rattle.message.specs.declared.fault.MessageFault.{MessageFault}
use Rattle.message.specs.declared.fault.MessageFault.TheVariants as fault
use Rattle.message.proofs.Cuts.{IsCut-head, IsCut-payload, message_of-ranges}
use Rattle.message.proofs.Heads.{AreBytes-drop, head_bytes-read}
use Rattle.message.proofs.ReadBack.{message_in-message_bytes}

abbrev Answer : Type 0
Answer = Result (Option Message) MessageFault

-- What holds of the answer of each test holds of the answer.
by_tests : (bytes : List ℕ) (P : Answer → Type 0)
    → (length bytes ≡ 0 → P (Ok None))
    → (1 ≤ length bytes → length bytes ≤ 10 → P (Err fault.Short))
    → (11 ≤ length bytes → IsBadLength (slice_index bytes 10) → P (Err fault.BadLength))
    → (11 ≤ length bytes → 1 ≤ slice_index bytes 10 → slice_index bytes 10 ≤ 18
    → length bytes < 11 + slice_index bytes 10 → P (Err fault.Short))
    → (1 ≤ slice_index bytes 10 → slice_index bytes 10 ≤ 18 → 11 + slice_index bytes 10 ≤ length bytes
    → P (Ok (Some (message_of (take 11 bytes) (take (slice_index bytes 10) (drop 11 bytes))))))
    → P (first_message bytes)
by_tests bytes P none few bad cut whole =
    go (length bytes == 0) refl (nat_lt (length bytes) 11) refl
    (slice_index bytes 10 == 0 || nat_lt 18 (slice_index bytes 10)) refl
    (nat_lt (length (drop 11 bytes)) (slice_index bytes 10)) refl
  where
    count : ℕ
    count = slice_index bytes 10

    wrong : (count == 0 || nat_lt 18 count) ≡ true → IsBadLength count
    wrong e = elim (or_cases (count == 0) (nat_lt 18 count) e) [
      | inl nothing ↦ inl (eqb-true count 0 nothing)
      | inr high ↦ inr (ltb-true 18 count high)
    ]

    go : (n : Bool) → (length bytes == 0) ≡ n → (h : Bool) → nat_lt (length bytes) 11 ≡ h → (b : Bool)
        → (count == 0 || nat_lt 18 count) ≡ b → (s : Bool) → nat_lt (length (drop 11 bytes)) count ≡ s
        → P
        (if n then Ok None else if h then Err fault.Short else if b then Err fault.BadLength else if s then Err
        fault.Short else Ok (Some (message_of (take 11 bytes) (take count (drop 11 bytes)))))
    go true n h hs b bs s ss = none (eqb-true (length bytes) 0 n)
    go false n true h b bs s ss =
        let some = eqb-false (length bytes) 0 n in
        let less = ltb-true (length bytes) 11 h in
        few (omega (arith, some)) (omega (arith, less))
    go false n false h true b s ss = bad (ltb-false (length bytes) 11 h) (wrong b)
    go false n false h false b true s =
        let some = eqb-false count 0 (or_parts (count == 0) (nat_lt 18 count) b).0 in
        let most = ltb-false 18 count (or_parts (count == 0) (nat_lt 18 count) b).1 in
        let left = length-drop 11 bytes in
        let less = ltb-true (length (drop 11 bytes)) count s in
        cut (ltb-false (length bytes) 11 h) (omega (arith, some)) most (omega (arith, left, less))
    go false n false h false b false s =
        let some = eqb-false count 0 (or_parts (count == 0) (nat_lt 18 count) b).0 in
        let most = ltb-false 18 count (or_parts (count == 0) (nat_lt 18 count) b).1 in
        let left = length-drop 11 bytes in
        let head = ltb-false (length bytes) 11 h in
        let fits = ltb-false (length (drop 11 bytes)) count s in
        whole (omega (arith, some)) most (omega (arith, left, fits, head))

-- The first of bytes are bytes.
pub AreBytes-take : (n : ℕ) (xs : List ℕ) → AreBytes xs → (k : ℕ) → slice_index (take n xs) k < 256
AreBytes-take zero xs bytes k = omega arith
AreBytes-take (suc n) [] bytes k = bytes k
AreBytes-take (suc n) (x ∷ xs) bytes zero = bytes 0
AreBytes-take (suc n) (x ∷ xs) bytes (suc k) = AreBytes-take n xs (λ i. bytes (suc i)) k

-- Zeros are bytes.
AreBytes-zeros : (n k : ℕ) → slice_index (replicate n 0) k < 256
AreBytes-zeros zero k = omega arith
AreBytes-zeros (suc n) zero = omega arith
AreBytes-zeros (suc n) (suc k) = AreBytes-zeros n k

-- Bytes and zeros behind them are bytes.
AreBytes-padded : (n : ℕ) (xs : List ℕ) → AreBytes xs → (k : ℕ) → slice_index (xs ++ replicate n 0) k < 256
AreBytes-padded n [] bytes k = AreBytes-zeros n k
AreBytes-padded n (x ∷ xs) bytes zero = bytes 0
AreBytes-padded n (x ∷ xs) bytes (suc k) = AreBytes-padded n xs (λ i. bytes (suc i)) k

-- The byte for the payload's length stands in the head.
count_in_head : (bytes : List ℕ) → slice_index (take 11 bytes) 10 ≡ slice_index bytes 10
count_in_head bytes = get_or-take 11 bytes 10 0 (omega arith)

-- Bytes that are not all of a head begin a message.
few_is_cut : (bytes : List ℕ) → AreBytes bytes → 1 ≤ length bytes → length bytes ≤ 10 → IsCut bytes
few_is_cut bytes are some few =
    let zeros = replicate (11 - length bytes) 0 in
    let long : length (bytes ++ zeros) ≡ 11 = let both = length-append bytes zeros in let more =
    length-replicate {A = ℕ} (11 - length bytes) 0 in omega (arith, both, more, few) in
    subst IsCut (take-append_seam bytes zeros)
    (IsCut-head (bytes ++ zeros) (length bytes) long (AreBytes-padded (11 - length bytes) bytes are) some few)

-- A whole head and not all of its payload begin a message.
head_is_cut : (bytes : List ℕ) → AreBytes bytes → 11 ≤ length bytes → 1 ≤ slice_index bytes 10
    → slice_index bytes 10 ≤ 18 → length bytes < 11 + slice_index bytes 10 → IsCut bytes
head_is_cut bytes are head some few less =
    let count = slice_index bytes 10 in
    let rest = drop 11 bytes in
    let left = length-drop 11 bytes in
    let zeros = replicate (count - length rest) 0 in
    let long : length (rest ++ zeros) ≡ count = let both = length-append rest zeros in let more =
    length-replicate {A = ℕ} (count - length rest) 0 in omega (arith, both, more, left, less) in
    let counted : length (rest ++ zeros) ≡ slice_index (take 11 bytes) 10 = long ∙ sym (count_in_head bytes) in
    let joined : take 11 bytes ++ take (length rest) (rest ++ zeros) ≡ bytes =
    ap (λ (l : List ℕ). take 11 bytes ++ l) (take-append_seam rest zeros) ∙ take-append-drop 11 bytes in
    subst IsCut joined
    (IsCut-payload (take 11 bytes) (rest ++ zeros) (length rest) (length-take-le 11 bytes head)
    (AreBytes-take 11 bytes are) (AreBytes-padded (count - length rest) rest (AreBytes-drop 11 bytes are)) counted
    (omega (arith, long, some)) (omega (arith, long, few)) (omega (arith, long, left, less, head)))

-- In a cut message the byte for the payload's length, where it is there, is a length that fits.
cut_length : (bytes : List ℕ) (cut : IsCut bytes) → 11 ≤ length bytes
    → slice_index bytes 10 ≡ length cut.message.payload
cut_length bytes cut head = sym (get_or_append_left bytes cut.rest 0 10 (omega (arith, head)))
    ∙ ap (λ (l : List ℕ). slice_index l 10) cut.whole

-- A cut message is not as long as its head and its payload.
cut_short : (bytes : List ℕ) (cut : IsCut bytes) → length bytes < 11 + length cut.message.payload
cut_short bytes cut =
    let whole : length (bytes ++ cut.rest) ≡ length (message_bytes cut.message) = ap length cut.whole in
    let both = length-append bytes cut.rest in
    let more = cut.more in
    omega (arith, whole, both, more)

-- The place of an answer among its kinds.
abbrev kind : Answer → ℕ
kind (Ok None) = 0
kind (Ok (Some m)) = 1
kind (Err fault.Short) = 2
kind (Err fault.BadLength) = 3
kind (Err fault.Read) = 4
kind (Err fault.Write) = 5
kind (Err fault.BadHeader) = 6

-- None is answered exactly where there are no bytes.
pub first_message-end : (bytes : List ℕ) → (first_message bytes ≡ Ok None) ↔ (bytes ≡ [])
first_message-end bytes = by_tests bytes (λ r. (r ≡ Ok None) ↔ (bytes ≡ []))
    (λ none. (λ e. nil_from_length bytes none, λ is. refl))
    (λ some few. (
      λ e. absurd (let k = ap kind e in omega (arith, k)),
      λ is. absurd (let n = ap length is in omega (arith, n, some)),
    ))
    (λ head bad. (
      λ e. absurd (let k = ap kind e in omega (arith, k)),
      λ is. absurd (let n = ap length is in omega (arith, n, head)),
    ))
    (λ head some few less. (
      λ e. absurd (let k = ap kind e in omega (arith, k)),
      λ is. absurd (let n = ap length is in omega (arith, n, head)),
    ))
    (λ some few fits. (
      λ e. absurd (let k = ap kind e in omega (arith, k)),
      λ is. absurd (let n = ap length is in omega (arith, n, fits)),
    ))

-- Short is answered exactly where the bytes begin a message and are not all of it.
pub first_message-short : (bytes : List ℕ) → AreBytes bytes → (first_message bytes ≡ Err fault.Short) ↔ IsCut bytes
first_message-short bytes are = by_tests bytes (λ r. (r ≡ Err fault.Short) ↔ IsCut bytes)
    (λ none. (
      λ e. absurd (let k = ap kind e in omega (arith, k)),
      λ cut. absurd (let some = cut.some in omega (arith, none, some)),
    ))
    (λ some few. (λ e. few_is_cut bytes are some few, λ cut. refl))
    (λ head bad. (λ e. absurd (let k = ap kind e in omega (arith, k)), λ cut. absurd (in_range head bad cut)))
    (λ head some few less. (λ e. head_is_cut bytes are head some few less, λ cut. refl))
    (λ some few fits. (
      λ e. absurd (let k = ap kind e in omega (arith, k)),
      λ cut. absurd (let counted = cut_length bytes cut (omega (arith, fits)) in let short = cut_short bytes cut in
          omega (arith, fits, counted, short)),
    ))
  where
    in_range : 11 ≤ length bytes → IsBadLength (slice_index bytes 10) → IsCut bytes → ⊥
    in_range head bad cut =
        let counted = cut_length bytes cut head in
        let some = cut.ranges.some in
        let few = cut.ranges.few in
        omega (arith, bad, counted, some, few)

-- The message that bytes begin with stands in their front.
abbrev pub Stands : List ℕ → Answer → Type 0
Stands bytes r =
    IfOk r
    (λ found. IfSome found
    (λ m. (bytes ≡ message_bytes m ++ drop (11 + length m.payload) bytes)
    × (11 + length m.payload ≤ length bytes)))

pub first_message-stands : (bytes : List ℕ) → AreBytes bytes → Stands bytes (first_message bytes)
first_message-stands bytes are = by_tests bytes (Stands bytes)
    (λ none. tt)
    (λ some few. tt)
    (λ head bad. tt)
    (λ head some few less. tt)
    (λ some few fits. stands fits)
  where
    count : ℕ
    count = slice_index bytes 10

    stands : 11 + count ≤ length bytes
        → Stands bytes (Ok (Some (message_of (take 11 bytes) (take count (drop 11 bytes)))))
    stands fits =
        let m = message_of (take 11 bytes) (take count (drop 11 bytes)) in
        let left = length-drop 11 bytes in
        let long : length (take count (drop 11 bytes)) ≡ count =
        length-take-le count (drop 11 bytes) (omega (arith, left, fits)) in
        let head =
        head_bytes-read m (take 11 bytes) (length-take-le 11 bytes (omega (arith, fits)))
        (AreBytes-take 11 bytes are) refl refl (long ∙ sym (count_in_head bytes)) in
        let behind : drop 11 bytes ≡ take count (drop 11 bytes) ++ drop (11 + length m.payload) bytes =
        sym (take-append-drop count (drop 11 bytes))
        ∙ ap (λ (l : List ℕ). take count (drop 11 bytes) ++ l)
        (drop-drop count 11 bytes ∙ ap (λ n. drop (11 + n) bytes) (sym long)) in
        let whole : bytes ≡ take 11 bytes ++ (take count (drop 11 bytes) ++ drop (11 + length m.payload) bytes) =
        sym (take-append-drop 11 bytes) ∙ ap (λ (l : List ℕ). take 11 bytes ++ l) behind in (
          whole ∙ ap (λ (l : List ℕ). l ++ (m.payload ++ drop (11 + length m.payload) bytes)) (sym head),
          omega (arith, long, fits),
        )

-- A message that bytes begin with is what they begin with.
pub first_message-reads_back : (m : Message) (rest : List ℕ) → IsMessage m
    → first_message (message_bytes m ++ rest) ≡ Ok (Some m)
first_message-reads_back m rest is =
    let count = length m.payload in
    let some = is.some in
    let few = is.few in
    let long = length-append m.payload rest in
    let bytes = message_bytes m ++ rest in
    let begun : (length bytes == 0) ≡ false = ne_eqb (length bytes) 0 (λ e. omega (arith, e)) in
    let whole : nat_lt (length bytes) 11 ≡ false = le-ltb (length bytes) 11 (omega arith) in
    let none : (count == 0) ≡ false = ne_eqb count 0 (λ e. omega (arith, e, some)) in
    let high : nat_lt 18 count ≡ false = le-ltb 18 count few in
    let fits : nat_lt (length (m.payload ++ rest)) count ≡ false =
    le-ltb (length (m.payload ++ rest)) count (omega (arith, long)) in
    let same = message_in-message_bytes m rest is in
    rw (begun, whole, none, high, fits) (ap (λ n. Ok (Some n)) same)

-- Bytes are none, begin no message, or are a message and a rest.
abbrev pub Front : List ℕ → Type 0
Front bytes =
    (bytes ≡ []) ⊎ (IsCut bytes ⊎ (HasBadLength bytes
    ⊎ ((m : Message) × (rest : List ℕ) × IsMessage m × (bytes ≡ message_bytes m ++ rest))))

pub front_of : (bytes : List ℕ) → AreBytes bytes → Front bytes
front_of bytes are = by_tests bytes (λ r. Stands bytes r → Front bytes)
    (λ none stands. inl (nil_from_length bytes none))
    (λ some few stands. inr (inl (few_is_cut bytes are some few)))
    (λ head bad stands. inr (inr (inl (head, bad))))
    (λ head some few less stands. inr (inl (head_is_cut bytes are head some few less)))
    (λ some few fits stands.
    let count = slice_index bytes 10 in
    let left = length-drop 11 bytes in
    let long : length (take count (drop 11 bytes)) ≡ count = length-take-le count (drop 11 bytes)
    (omega (arith, left, fits)) in
    let ranges =
    message_of-ranges (take 11 bytes) (take count (drop 11 bytes)) (AreBytes-take 11 bytes are)
    (AreBytes-take count (drop 11 bytes) (AreBytes-drop 11 bytes are)) (omega (arith, long, some))
    (omega (arith, long, few)) in
    inr (inr (inr (_, _, ranges, stands.0))))
    (first_message-stands bytes are)
