-- How many events are alike, of lists that come in pieces.
use Rattle.std.proofs.Common.{◌≡◌, ◌⊎◌, ◌≤◌, ◌+◌, ◌++◌, ℕ, suc, Bool, true, false, List, [], ◌∷◌, length, refl}
use Rattle.std.proofs.Common.{ap, arith, inl, inr}
use Rattle.std.specs.Prelude.{if◌then◌else◌}
use Rattle.retire.specs.declared.event.Event.{Event}
use Rattle.bench.specs.Verdict.{count_alike, is_alike}
use Rattle.comparing.specs.Compared.{AreNext}

-- No more than were decoded.
pub alike_within : (decoded log : List Event) → count_alike decoded log ≤ length decoded
alike_within [] log = omega arith
alike_within (event ∷ decoded) [] = omega arith
alike_within (event ∷ decoded) (row ∷ log) = go (is_alike event row) (alike_within decoded log)
  where
    go : (alike : Bool) → count_alike decoded log ≤ length decoded
        → (if alike then suc (count_alike decoded log) else 0) ≤ suc (length decoded)
    go true rest = omega (arith, rest)
    go false rest = omega arith

-- And no more than the log has.
pub alike_few : (decoded log : List Event) → count_alike decoded log ≤ length log
alike_few [] log = omega arith
alike_few (event ∷ decoded) [] = omega arith
alike_few (event ∷ decoded) (row ∷ log) = go (is_alike event row) (alike_few decoded log)
  where
    go : (alike : Bool) → count_alike decoded log ≤ length log
        → (if alike then suc (count_alike decoded log) else 0) ≤ suc (length log)
    go true rest = omega (arith, rest)
    go false rest = omega arith

-- Where all events so far are alike, and as many of both came, the count goes on with the next ones.
pub alike_on : (before seen decoded events : List Event) → count_alike before seen ≡ length seen
    → count_alike before seen ≡ length before
    → count_alike (before ++ decoded) (seen ++ events) ≡ count_alike before seen + count_alike decoded events
alike_on [] [] decoded events all both = omega arith
alike_on [] (row ∷ seen) decoded events all both = absurd (omega (arith, all))
alike_on (event ∷ before) [] decoded events all both = absurd (omega (arith, both))
alike_on (event ∷ before) (row ∷ seen) decoded events all both =
    go (is_alike event row) (alike_on before seen decoded events) all both
  where
    go : (alike : Bool)
        → (count_alike before seen ≡ length seen → count_alike before seen ≡ length before
        → count_alike (before ++ decoded) (seen ++ events) ≡ count_alike before seen + count_alike decoded events)
        → (if alike then suc (count_alike before seen) else 0) ≡ suc (length seen)
        → (if alike then suc (count_alike before seen) else 0) ≡ suc (length before)
        → (if alike then suc (count_alike (before ++ decoded) (seen ++ events)) else 0)
        ≡ (if alike then suc (count_alike before seen) else 0) + count_alike decoded events
    go true on all both =
        let rest = on (omega (arith, all)) (omega (arith, both)) in omega (arith, rest)
    go false on all both = absurd (omega (arith, all))

-- Where they are not, it stays.
pub alike_stays : (before seen decoded events : List Event) → AreNext before seen decoded events
    → ¬ ((count_alike before seen ≡ length seen) × (count_alike before seen ≡ length before))
    → count_alike (before ++ decoded) (seen ++ events) ≡ count_alike before seen
alike_stays [] [] decoded events next other = absurd (other (refl, refl))
alike_stays [] (row ∷ seen) decoded events next other = go next.1
  where
    go : (length (row ∷ seen) ≤ 0) ⊎ (decoded ≡ []) → count_alike decoded (row ∷ seen ++ events) ≡ 0
    go (inl few) = absurd (omega (arith, few))
    go (inr none) = ap (λ decoded. count_alike decoded (row ∷ seen ++ events)) none
alike_stays (event ∷ before) [] decoded events next other = go next.0
  where
    go : (length (event ∷ before) ≤ 0) ⊎ (events ≡ []) → count_alike (event ∷ before ++ decoded) events ≡ 0
    go (inl few) = absurd (omega (arith, few))
    go (inr none) = ap (count_alike (event ∷ before ++ decoded)) none
alike_stays (event ∷ before) (row ∷ seen) decoded events next other =
    go (is_alike event row) (alike_stays before seen decoded events (fewer next.0, fewer next.1)) other
  where
    fewer : {A : Type 0} {m n : ℕ} → (suc m ≤ suc n) ⊎ A → (m ≤ n) ⊎ A
    fewer (inl few) = inl (omega (arith, few))
    fewer (inr none) = inr none

    go : (alike : Bool)
        → (¬ ((count_alike before seen ≡ length seen) × (count_alike before seen ≡ length before))
        → count_alike (before ++ decoded) (seen ++ events) ≡ count_alike before seen)
        → ¬ (((if alike then suc (count_alike before seen) else 0) ≡ suc (length seen))
        × ((if alike then suc (count_alike before seen) else 0) ≡ suc (length before)))
        → (if alike then suc (count_alike (before ++ decoded) (seen ++ events)) else 0)
        ≡ (if alike then suc (count_alike before seen) else 0)
    go true stays other =
        ap (λ n. suc n) (stays (λ same. other (ap (λ n. suc n) same.0, ap (λ n. suc n) same.1)))
    go false stays other = refl
