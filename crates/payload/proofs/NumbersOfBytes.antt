-- Reading bytes as numbers.
use Rattle.std.proofs.Common.{◌≡◌, ℕ, zero, suc, ◌+◌, ◌-◌, ◌*◌, ◌/◌, ◌%◌, ◌^◌, ◌<◌, ◌≤◌, ◌⊎◌, inl, inr, List, [], ◌∷◌}
use Rattle.std.proofs.Common.{◌++◌, length, take, drop, get_or, replicate, refl, sym, ap, ◌∙◌, arith, append_assoc}
use Rattle.std.proofs.Common.{length-drop}
use Rattle.std.proofs.Math.Nat.{pow-suc, pow-le-pow_right, mul_comm, div-div-eq-div-mul, zero-div}
use Rattle.std.proofs.lemmas.Nat.{pow-add}
use Rattle.std.proofs.lemmas.List.{length-append, length-replicate, drop-replicate, append-nil, take-append-drop}
use Rattle.std.proofs.lemmas.List.{drop-drop}
use Rattle.std.proofs.Math.Seq.{take-suc}
use Rattle.std.specs.Int.{byte_worth, sum_through, from_le_bytes, w128}
use Rattle.payload.specs.Bytes.{number, IsBytes}
use Rattle.payload.specs.Faults.{bits_of}
use Rattle.payload.proofs.ByteLists.{power, number-lt}
use Rattle.payload.proofs.Extending.{extended_low, extended_high}

pub number-append : (xs ys : List ℕ) → number (xs ++ ys) ≡ number xs + 2 ^ (8 * length xs) * number ys
number-append [] ys = omega arith
number-append (x ∷ xs) ys =
    let there = number-append xs ys in
    rw (there, power (length xs)) (omega arith)

number-zeros : (k : ℕ) → number (replicate k 0) ≡ 0
number-zeros zero = refl
number-zeros (suc k) = let there = number-zeros k in omega arith

number-ones : (k : ℕ) → number (replicate k 255) + 1 ≡ 2 ^ (8 * k)
number-ones zero = refl
number-ones (suc k) = let there = number-ones k in rw (power k) (omega arith)

-- The top bit is that of the last byte.
pub record Top (n : ℕ) (xs : List ℕ) : Type 0 where
  pub clear : get_or xs n 0 < 128 → number xs < 128 * 2 ^ (8 * n)
  pub set : 128 ≤ get_or xs n 0 → 128 * 2 ^ (8 * n) ≤ number xs

pub top : (n : ℕ) (xs : List ℕ) → length xs ≡ suc n → IsBytes xs → Top n xs
top n [] e h = absurd (omega arith)
top zero (x ∷ []) e h = record { clear = λ a. omega arith; set = λ a. omega arith }
top zero (x ∷ y ∷ xs) e h = absurd (omega arith)
top (suc n) (x ∷ xs) e h =
    let there = top n xs (omega arith) h.1 in
    let here : x < 256 = h.0 in
    record {
      clear = λ a. let next : number xs < 128 * 2 ^ (8 * n) = there.clear a in rw (power n) (omega arith);
      set = λ a. let next : 128 * 2 ^ (8 * n) ≤ number xs = there.set a in rw (power n) (omega arith);
    }

-- Copies of the top bit make the number at 144 bits.
pub filled : (n fill : ℕ) (xs : List ℕ) → length xs ≡ suc n → suc n ≤ 18 → IsBytes xs
    → ((get_or xs n 0 < 128) × (fill ≡ 0)) ⊎ ((128 ≤ get_or xs n 0) × (fill ≡ 255))
    → number (xs ++ replicate (18 - length xs) fill) ≡ bits_of xs
filled n fill xs e few h (inl (clear, is)) =
    let size : 2 ^ (8 * suc n - 1) ≡ 128 * 2 ^ (8 * n) =
    (let same : 8 * suc n - 1 ≡ 7 + 8 * n = omega arith in ap (λ x. 2 ^ x) same ∙ pow-add 2 7 (8 * n)) in
    let less = (top n xs e h).clear clear in
    rw (
      is,
      number-append xs (replicate (18 - length xs) 0),
      number-zeros (18 - length xs),
      e,
      extended_low (8 * suc n) (number xs) (omega arith),
    ) (omega arith)
filled n fill xs e few h (inr (set, is)) =
    let size : 2 ^ (8 * suc n - 1) ≡ 128 * 2 ^ (8 * n) =
    (let same : 8 * suc n - 1 ≡ 7 + 8 * n = omega arith in ap (λ x. 2 ^ x) same ∙ pow-add 2 7 (8 * n)) in
    let more = (top n xs e h).set set in
    let ones = number-ones (18 - suc n) in
    let whole : 2 ^ 144 ≡ 2 ^ (8 * suc n) * 2 ^ (8 * (18 - suc n)) =
    (let same : 144 ≡ 8 * suc n + 8 * (18 - suc n) = omega arith in
    ap (λ x. 2 ^ x) same ∙ pow-add 2 (8 * suc n) (8 * (18 - suc n))) in
    let parts : 2 ^ (8 * suc n) * (number (replicate (18 - suc n) 255) + 1) ≡ 2 ^ 144 = rw (ones, whole) refl in
    rw (is, number-append xs (replicate (18 - length xs) 255), e, extended_high (8 * suc n) (number xs) (omega arith))
    (omega arith)

powers : (k : ℕ) → 256 ^ k ≡ 2 ^ (8 * k)
powers zero = refl
powers (suc k) = let there = powers k in rw (power k, pow-suc 256 k) (omega arith)

take_length : (xs : List ℕ) (k : ℕ) → k ≤ length xs → length (take k xs) ≡ k
take_length xs zero h = refl
take_length [] (suc k) h = absurd (omega arith)
take_length (x ∷ xs) (suc k) h = ap suc (take_length xs k (omega arith))

take_whole : (xs : List ℕ) (k : ℕ) → length xs ≡ k → take k xs ≡ xs
take_whole [] zero h = refl
take_whole [] (suc k) h = absurd (omega arith)
take_whole (x ∷ xs) zero h = absurd (omega arith)
take_whole (x ∷ xs) (suc k) h = ap (λ ys. x ∷ ys) (take_whole xs k (omega arith))

-- The sum that `from_le_bytes` makes.
pub summed : (k : ℕ) (xs : List ℕ) → k < length xs → sum_through (λ i. byte_worth i (get_or xs i 0)) k
    ≡ number (take (suc k) xs)
summed zero (x ∷ xs) h = omega arith
summed zero [] h = absurd (omega arith)
summed (suc k) xs h =
    let there = summed k xs (omega arith) in
    let more : take (suc (suc k)) xs ≡ take (suc k) xs ++ (get_or xs (suc k) 0 ∷ []) = take-suc xs (suc k) 0 h in
    let size : length (take (suc k) xs) ≡ suc k = take_length xs (suc k) (omega arith) in
    let last : 256 ^ suc k ≡ 2 ^ (8 * suc k) = powers (suc k) in
    rw (more, number-append (take (suc k) xs) (get_or xs (suc k) 0 ∷ []), size, there, last) (omega arith)

pub from_le_16 : (xs : List ℕ) → length xs ≡ 16 → from_le_bytes w128 xs ≡ number xs
from_le_16 xs h = summed 15 xs (omega arith) ∙ ap number (take_whole xs 16 h)

pub padded_16 : (bytes new : List ℕ) (fill : ℕ) → new ≡ bytes → length bytes ≤ 16
    → from_le_bytes w128 (new ++ drop (length bytes) (replicate 16 fill))
    ≡ number (bytes ++ replicate (16 - length bytes) fill)
padded_16 bytes new fill same few =
    let rest : drop (length bytes) (replicate 16 fill) ≡ replicate (16 - length bytes) fill =
    drop-replicate (length bytes) 16 fill in
    let size : length (bytes ++ replicate (16 - length bytes) fill) ≡ 16 =
    rw (length-append bytes (replicate (16 - length bytes) fill), length-replicate (16 - length bytes) fill)
    (omega arith) in
    ap (λ xs. from_le_bytes w128 (xs ++ drop (length bytes) (replicate 16 fill))) same
    ∙ ap (λ xs. from_le_bytes w128 (bytes ++ xs)) rest
    ∙ from_le_16 (bytes ++ replicate (16 - length bytes) fill) size

-- A number from its two parts.
pub whole_long : (bytes : List ℕ) (fill low high : ℕ) → 16 ≤ length bytes → length bytes ≤ 18
    → low ≡ number (take 16 bytes ++ replicate (16 - length (take 16 bytes)) fill)
    → high ≡ number (take (length bytes - 16) (drop 16 bytes)
    ++ replicate (2 - length (take (length bytes - 16) (drop 16 bytes))) fill)
    → low + 2 ^ 128 * high ≡ number (bytes ++ replicate (18 - length bytes) fill)
whole_long bytes fill low high many few is_low is_high =
    let front : length (take 16 bytes) ≡ 16 = take_length bytes 16 many in
    let back : length (drop 16 bytes) ≡ length bytes - 16 = length-drop 16 bytes in
    let none : take 16 bytes ++ replicate (16 - length (take 16 bytes)) fill ≡ take 16 bytes =
    rw front (append-nil (take 16 bytes)) in
    let count : 2 - length (drop 16 bytes) ≡ 18 - length bytes = omega arith in
    let lists : bytes ++ replicate (18 - length bytes) fill ≡ take 16 bytes
    ++ (drop 16 bytes ++ replicate (18 - length bytes) fill) =
    ap (λ xs. xs ++ replicate (18 - length bytes) fill) (sym (take-append-drop 16 bytes))
    ∙ append_assoc (take 16 bytes) (drop 16 bytes) (replicate (18 - length bytes) fill) in
    let all : take (length bytes - 16) (drop 16 bytes) ≡ drop 16 bytes =
    take_whole (drop 16 bytes) (length bytes - 16) back in
    rw (
      lists,
      number-append (take 16 bytes) (drop 16 bytes ++ replicate (18 - length bytes) fill),
      front,
      is_low,
      none,
      is_high,
      all,
      count,
    ) refl

-- What the first bytes leave of a number.
bytes-drop : (j : ℕ) (xs : List ℕ) → IsBytes xs → IsBytes (drop j xs)
bytes-drop zero xs h = h
bytes-drop (suc j) [] h = tt
bytes-drop (suc j) (x ∷ xs) h = bytes-drop j xs h.1

number-drop : (j : ℕ) (xs : List ℕ) → IsBytes xs → number (drop j xs) ≡ number xs / 2 ^ (8 * j)
number-drop zero xs h = omega arith
number-drop (suc j) [] h = sym (zero-div (2 ^ (8 * suc j)))
number-drop (suc j) (x ∷ xs) h =
    let here : x < 256 = h.0 in
    let one : (x + 256 * number xs) / 256 ≡ number xs = omega arith in
    number-drop j xs h.1 ∙ ap (λ n. n / 2 ^ (8 * j)) (sym one)
    ∙ div-div-eq-div-mul (x + 256 * number xs) 256 (2 ^ (8 * j))
    ∙ ap (λ p. (x + 256 * number xs) / p) (sym (power j))

-- Two stretches of so many bytes make the number, where they meet or overlap.
pub overlapped : (k : ℕ) (xs : List ℕ) → IsBytes xs → k ≤ length xs → length xs ≤ 2 * k
    → number (take k xs) + 2 ^ (8 * k) * (number (take k (drop (length xs - k) xs)) / 2 ^ (8 * (2 * k - length xs)))
    ≡ number xs
overlapped k xs h some few =
    let j = 2 * k - length xs in
    let last = drop (length xs - k) xs in
    let size : length last ≡ k = length-drop (length xs - k) xs ∙ omega arith in
    let count : length xs - k + j ≡ k = omega arith in
    let behind : drop j last ≡ drop k xs = drop-drop j (length xs - k) xs ∙ ap (λ n. drop n xs) count in
    let part : number (take k last) / 2 ^ (8 * j) ≡ number (drop k xs) =
    ap (λ l. number l / 2 ^ (8 * j)) (take_whole last k size)
    ∙ sym (number-drop j last (bytes-drop (length xs - k) xs h))
    ∙ ap number behind in
    ap (λ n. number (take k xs) + 2 ^ (8 * k) * n) part
    ∙ ap (λ n. number (take k xs) + 2 ^ (8 * n) * number (drop k xs)) (sym (take_length xs k some))
    ∙ sym (number-append (take k xs) (drop k xs)) ∙ ap number (take-append-drop k xs)

small_sum : (a p q n w : ℕ) → a + p ≡ n → q ≡ p → n < w → w ≤ 2 ^ 128 → a + q % 2 ^ 128 ≡ n
small_sum a p q n w sum same less wide = omega (arith, sum, same, less, wide)

-- The same as the code computes it, in 128 bits.
pub two_parts : (k : ℕ) (xs : List ℕ) (a b : ℕ) → IsBytes xs → k ≤ length xs → length xs ≤ 2 * k → length xs ≤ 16
    → a ≡ number (take k xs) → b ≡ number (take k (drop (length xs - k) xs))
    → a + b / 2 ^ (8 * (2 * k - length xs)) * 2 ^ (8 * k) % 2 ^ 128 ≡ number xs
two_parts k xs a b h some few short is_a is_b =
    let x = b / 2 ^ (8 * (2 * k - length xs)) in
    let whole : a + 2 ^ (8 * k) * x ≡ number xs = rw (is_a, is_b) (overlapped k xs h some few) in
    let wide : 2 ^ (8 * length xs) ≤ 2 ^ 128 =
    pow-le-pow_right {n = 2} (omega arith) {j = 128} (omega (arith, short)) in
    small_sum a (2 ^ (8 * k) * x) (x * 2 ^ (8 * k)) (number xs) (2 ^ (8 * length xs)) whole (mul_comm x (2 ^ (8 * k)))
    (number-lt xs h) wide

-- Bytes, from a bound at each index.
pub bytes_from_each : (xs : List ℕ) → ((i : ℕ) → get_or xs i 0 < 256) → IsBytes xs
bytes_from_each [] h = tt
bytes_from_each (x ∷ xs) h = (h 0, bytes_from_each xs (λ i. h (suc i)))
