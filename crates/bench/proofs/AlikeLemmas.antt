-- How many events two lists have alike, behind the first ones.
use Rattle.std.proofs.Common.{◌≡◌, ◌<◌, ◌≤◌, ◌+◌, ℕ, zero, suc, true, false, List, [], ◌∷◌, length, drop, get_or, refl}
use Rattle.std.proofs.Common.{ap, arith}
use Rattle.std.specs.Prelude.{if◌then◌else◌}
use Rattle.retire.specs.declared.event.Event.{Event}
use Rattle.bench.specs.Verdict.{count_alike, is_alike}

-- None where the log has ended.
none_behind : (decoded : List Event) → count_alike decoded [] ≡ 0
none_behind [] = refl
none_behind (event ∷ decoded) = refl

pub count_alike-ended : (decoded log : List Event) (n : ℕ) → length log ≤ n
    → count_alike (drop n decoded) (drop n log) ≡ 0
count_alike-ended decoded [] zero ended = none_behind decoded
count_alike-ended decoded [] (suc n) ended = none_behind (drop (suc n) decoded)
count_alike-ended decoded (row ∷ log) zero ended = absurd (omega (arith, ended))
count_alike-ended [] (row ∷ log) (suc n) ended = refl
count_alike-ended (event ∷ decoded) (row ∷ log) (suc n) ended = count_alike-ended decoded log n (omega (arith, ended))

-- None where all that was decoded is behind.
pub count_alike-over : (decoded log : List Event) (n : ℕ) → length decoded ≤ n
    → count_alike (drop n decoded) (drop n log) ≡ 0
count_alike-over [] log zero over = refl
count_alike-over [] log (suc n) over = refl
count_alike-over (event ∷ decoded) log zero over = absurd (omega (arith, over))
count_alike-over (event ∷ decoded) [] (suc n) over = none_behind (drop n decoded)
count_alike-over (event ∷ decoded) (row ∷ log) (suc n) over = count_alike-over decoded log n (omega (arith, over))

module _ (d d' : Event) where
  more : (decoded log : List Event) (n : ℕ) → n < length decoded → n < length log
      → is_alike (get_or decoded n d) (get_or log n d') ≡ true
      → count_alike (drop n decoded) (drop n log) ≡ suc (count_alike (drop (suc n) decoded) (drop (suc n) log))
  more [] log n within there alike = absurd (omega (arith, within))
  more (event ∷ decoded) [] n within there alike = absurd (omega (arith, there))
  more (event ∷ decoded) (row ∷ log) zero within there alike =
      ap (λ a. if a then suc (count_alike decoded log) else 0) alike
  more (event ∷ decoded) (row ∷ log) (suc n) within there alike =
      more decoded log n (omega (arith, within)) (omega (arith, there)) alike

  -- One more where the events at this place are alike.
  pub count_alike-more : (decoded log : List Event) (n : ℕ) → n < length decoded → n < length log
      → is_alike (get_or decoded n d) (get_or log n d') ≡ true
      → count_alike (drop n decoded) (drop n log) ≡ suc (count_alike (drop (n + 1) decoded) (drop (n + 1) log))
  count_alike-more decoded log n within there alike =
      let next : n + 1 ≡ suc n = omega arith in
      rw next (more decoded log n within there alike)

  -- None where they are not.
  pub count_alike-differs : (decoded log : List Event) (n : ℕ) → n < length decoded → n < length log
      → is_alike (get_or decoded n d) (get_or log n d') ≡ false → count_alike (drop n decoded) (drop n log) ≡ 0
  count_alike-differs [] log n within there other = absurd (omega (arith, within))
  count_alike-differs (event ∷ decoded) [] n within there other = absurd (omega (arith, there))
  count_alike-differs (event ∷ decoded) (row ∷ log) zero within there other =
      ap (λ a. if a then suc (count_alike decoded log) else 0) other
  count_alike-differs (event ∷ decoded) (row ∷ log) (suc n) within there other =
      count_alike-differs decoded log n (omega (arith, within)) (omega (arith, there)) other
