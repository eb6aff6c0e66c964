-- The first blank of a line, and the carriage return at its end.
use Rattle.std.proofs.Common.{◌≡◌, ◌≤◌, ◌<◌, ◌+◌, ◌==◌, ℕ, zero, suc, true, false, List, [], ◌∷◌, length}
use Rattle.std.proofs.Common.{arith, cond, refl, ap, sym, slice_index, take}
use Rattle.std.proofs.lemmas.Bool.Decides.{nat_tests}
use Rattle.std.proofs.lemmas.List.Sums.{position_or_len_is}
use Rattle.std.specs.List.{position_or_len}
use Rattle.symbols.specs.File.{is_blank, without_return}

-- The first blank stands here: there is none before it.
pub blank_here : (text : List ℕ) (place : ℕ) → place < length text
    → ((k : ℕ) → k < place → ¬ (slice_index text k ≡ 32)) → slice_index text place ≡ 32
    → position_or_len is_blank text ≡ place
blank_here text place inside before here =
    let few : place ≤ length text = omega (arith, inside) in
    position_or_len_is is_blank text place 0 few
    (λ k low. let other = before k low in
    let test : (slice_index text k == 32) ≡ false = grind (arith, nat_tests) in test)
    (λ low. let test : (slice_index text place == 32) ≡ true = grind (arith, nat_tests) in test)

-- No byte is a blank.
pub no_blank : (text : List ℕ) (place : ℕ) → length text ≤ place
    → ((k : ℕ) → k < place → ¬ (slice_index text k ≡ 32)) → position_or_len is_blank text ≡ length text
no_blank text place all before =
    let few : length text ≤ length text = omega arith in
    position_or_len_is is_blank text (length text) 0 few
    (λ k low. let other = before k (omega (arith, low, all)) in
    let test : (slice_index text k == 32) ≡ false = grind (arith, nat_tests) in test)
    (λ low. absurd (omega (arith, low)))

-- A carriage return at the end is left out.
pub return_left_out : (line : List ℕ) (n : ℕ) → length line ≡ n + 1 → slice_index line n ≡ 13
    → take n line ≡ without_return line
return_left_out [] n long last = absurd (omega (arith, long))
return_left_out (byte ∷ []) zero long last =
    let test : (byte == 13) ≡ true = grind (arith, nat_tests) in ap (λ b. cond b [] (byte ∷ [])) (sym test)
return_left_out (byte ∷ []) (suc n) long last = absurd (omega (arith, long))
return_left_out (byte ∷ next ∷ rest) zero long last = absurd (omega (arith, long))
return_left_out (byte ∷ next ∷ rest) (suc n) long last =
    let shorter : length (next ∷ rest) ≡ n + 1 = omega (arith, long) in
    ap (λ l. byte ∷ l) (return_left_out (next ∷ rest) n shorter last)

-- Another last byte is kept.
pub other_kept : (line : List ℕ) (n : ℕ) → length line ≡ n + 1 → ¬ (slice_index line n ≡ 13)
    → line ≡ without_return line
other_kept [] n long last = absurd (omega (arith, long))
other_kept (byte ∷ []) zero long last =
    let test : (byte == 13) ≡ false = grind (arith, nat_tests) in ap (λ b. cond b [] (byte ∷ [])) (sym test)
other_kept (byte ∷ []) (suc n) long last = absurd (omega (arith, long))
other_kept (byte ∷ next ∷ rest) zero long last = absurd (omega (arith, long))
other_kept (byte ∷ next ∷ rest) (suc n) long last =
    let shorter : length (next ∷ rest) ≡ n + 1 = omega (arith, long) in
    ap (λ l. byte ∷ l) (other_kept (next ∷ rest) n shorter last)

-- An empty line has no end.
pub none_kept : (line : List ℕ) → length line ≡ 0 → line ≡ without_return line
none_kept [] e = refl
none_kept (byte ∷ []) e = absurd (omega (arith, e))
none_kept (byte ∷ next ∷ rest) e = absurd (omega (arith, e))
