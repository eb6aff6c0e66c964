-- The runs of the numbers of flags that are not set.
use Rattle.std.proofs.Common.{◌≡◌, ◌≢◌, ◌⊎◌, inl, inr, ℕ, suc, ◌+◌, ◌-◌, ◌≤◌, Bool, true, false, cond, eqb, List, [], ◌∷◌}
use Rattle.std.proofs.Common.{length, take, drop, refl, sym, ap, subst, ◌∙◌, arith, add-zero}
use Rattle.std.specs.Prelude.{not}
use Rattle.std.specs.List.{position_or_len}
use Rattle.std.proofs.lemmas.Bool.{eq-eqb, eqb-true, ne_eqb}
use Rattle.std.proofs.lemmas.List.{length-drop, length-take}
use Rattle.std.proofs.lemmas.List.Sums.{prefix_len-le-length}
use Rattle.auditing.specs.Losing.{run_before, runs_of}
use Rattle.auditing.specs.Unset.{lost_in}
use Rattle.auditing.specs.declared.lost.Lost.{Lost}

-- The flags that are set in front have no numbers that are lost.
pub skipped : (number : ℕ) (flags : List Bool)
    → lost_in number flags
    ≡ lost_in (number + position_or_len not flags) (drop (position_or_len not flags) flags)
skipped number [] = refl
skipped number (false ∷ flags) = ap (λ n. lost_in n (false ∷ flags)) (sym (add-zero number))
skipped number (true ∷ flags) =
    let count = position_or_len not flags in
    let one : suc count ≡ 1 + count = omega arith in
    let moved : (number + 1) + count ≡ number + suc count = omega arith in
    subst (λ j. lost_in (number + 1) flags ≡ lost_in (number + j) (drop j (true ∷ flags))) one
    (skipped (number + 1) flags ∙ ap (λ n. lost_in n (drop count flags)) moved)

-- All runs of these numbers begin at this number or behind it.
abbrev pub BeginFrom : ℕ → List Lost → Type 0
BeginFrom low [] = Unit {0}
BeginFrom low (run ∷ runs) = low ≤ run.first

-- A run of one number.
abbrev one : ℕ → Lost
one number = record { first = number; last = number }

-- A number in front of runs begins them.
begins_before : (number : ℕ) (runs : List Lost) → BeginFrom number (run_before number runs)
begins_before number [] = omega arith
begins_before number (run ∷ runs) = go (eqb run.first (number + 1))
  where
    go : (same : Bool)
        → BeginFrom number
        (cond same (record { first = number; last = run.last } ∷ runs) (one number ∷ run ∷ runs))
    go true = omega arith
    go false = omega arith

-- The runs of flags begin at the number of the first flag or behind it.
begins : (number : ℕ) (flags : List Bool) → BeginFrom number (runs_of (lost_in number flags))
begins number [] = tt
begins number (true ∷ flags) = weaker (runs_of (lost_in (number + 1) flags)) (begins (number + 1) flags)
  where
    weaker : (runs : List Lost) → BeginFrom (number + 1) runs → BeginFrom number runs
    weaker [] from = tt
    weaker (run ∷ runs) from = omega arith
begins number (false ∷ flags) = begins_before number (runs_of (lost_in (number + 1) flags))

-- A number before runs that do not begin right behind it is a run of its own.
apart : (number : ℕ) (runs : List Lost) → BeginFrom (number + 2) runs → run_before number runs ≡ one number ∷ runs
apart number [] from = refl
apart number (run ∷ runs) from =
    let other : run.first ≢ number + 1 = λ same. omega (arith, same, from) in
    ap (λ same. cond same (record { first = number; last = run.last } ∷ runs) (one number ∷ run ∷ runs))
    (ne_eqb run.first (number + 1) other)

-- A number right before a run is part of it.
joined : (number last : ℕ) (runs : List Lost)
    → run_before number (record { first = number + 1; last = last } ∷ runs)
    ≡ record { first = number; last = last } ∷ runs
joined number last runs =
    let run : Lost = record { first = number + 1; last = last } in
    ap (λ same. cond same (record { first = number; last = last } ∷ runs) (one number ∷ run ∷ runs))
    (eq-eqb (number + 1) (number + 1) refl)

-- The run of the flags in front that are not set, of which there is one at least.
pub first_run : (number : ℕ) (flags : List Bool)
    → let more = position_or_len (λ flag. flag) flags in
    runs_of (lost_in number (false ∷ flags))
    ≡ record { first = number; last = number + more } ∷ runs_of (lost_in (number + suc more) (drop more flags))
first_run number [] = ap (λ last. record { first = number; last = last } ∷ []) (sym (add-zero number))
first_run number (true ∷ flags) =
    let two : (number + 1) + 1 ≡ number + 2 = omega arith in
    let behind = runs_of (lost_in ((number + 1) + 1) flags) in
    let from : BeginFrom (number + 2) behind =
    subst (λ low. BeginFrom low behind) two (begins ((number + 1) + 1) flags) in
    apart number behind from
    ∙ ap (λ last. record { first = number; last = last } ∷ behind) (sym (add-zero number))
first_run number (false ∷ flags) =
    let more = position_or_len (λ flag. flag) flags in
    let behind = runs_of (lost_in ((number + 1) + suc more) (drop more flags)) in
    let here : run_before number (runs_of (lost_in (number + 1) (false ∷ flags)))
    ≡ record { first = number; last = (number + 1) + more } ∷ behind =
    ap (run_before number) (first_run (number + 1) flags) ∙ joined number ((number + 1) + more) behind in
    let last : (number + 1) + more ≡ number + suc more = omega arith in
    let next : (number + 1) + suc more ≡ number + suc (suc more) = omega arith in
    let count : suc more ≡ 1 + more = omega arith in
    subst
    (λ j. runs_of (lost_in number (false ∷ false ∷ flags))
    ≡ record { first = number; last = number + j } ∷ runs_of (lost_in (number + suc j) (drop j (false ∷ flags))))
    count
    (here ∙ ap (λ l. record { first = number; last = l } ∷ behind) last
    ∙ ap (λ n. record { first = number; last = number + suc more } ∷ runs_of (lost_in n (drop more flags))) next)

-- Behind the flags that are set in front stands none, or one that is not set.
behind_set : (flags : List Bool) → (drop (position_or_len not flags) flags ≡ [])
    ⊎ ((rest : List Bool) × (drop (position_or_len not flags) flags ≡ false ∷ rest))
behind_set [] = inl refl
behind_set (false ∷ flags) = inr (flags, refl)
behind_set (true ∷ flags) =
    let one : suc (position_or_len not flags) ≡ 1 + position_or_len not flags = omega arith in
    subst (λ j. (drop j (true ∷ flags) ≡ []) ⊎ ((rest : List Bool) × (drop j (true ∷ flags) ≡ false ∷ rest))) one
    (behind_set flags)

-- A run of flags that are not set has one more than those behind its first.
run_long : (left run rest : List Bool) → left ≡ false ∷ rest → run ≡ take (position_or_len (λ flag. flag) left) left
    → length run ≡ suc (position_or_len (λ flag. flag) rest)
run_long left run rest left_as run_is =
    let more = position_or_len (λ flag. flag) rest in
    let within : more ≤ length rest = prefix_len-le-length (λ flag. not flag) rest in
    ap length (run_is ∙ ap (λ l. take (position_or_len (λ flag. flag) l) l) left_as)
    ∙ omega (arith, within, length-take (1 + more) (false ∷ rest))

-- Where the next run has no flag, no run is left.
pub none_left : (number : ℕ) (flags left run : List Bool) → left ≡ drop (position_or_len not flags) flags
    → run ≡ take (position_or_len (λ flag. flag) left) left → eqb (length run) 0 ≡ true
    → runs_of (lost_in number flags) ≡ []
none_left number flags left run left_is run_is none = go (behind_set flags)
  where
    go : (drop (position_or_len not flags) flags ≡ [])
        ⊎ ((rest : List Bool) × (drop (position_or_len not flags) flags ≡ false ∷ rest))
        → runs_of (lost_in number flags) ≡ []
    go (inl end) = ap runs_of (skipped number flags ∙ ap (lost_in (number + position_or_len not flags)) end)
    go (inr (rest, begins)) =
        let long = run_long left run rest (left_is ∙ begins) run_is in
        let short = eqb-true (length run) 0 none in
        absurd (omega (arith, long, short))

-- What is left once the next run is passed over, and that run, if there is one.
pub next_run : (number : ℕ) (flags left run behind : List Bool) (first next : ℕ) (none : Bool)
    → left ≡ drop (position_or_len not flags) flags → run ≡ take (position_or_len (λ flag. flag) left) left
    → behind ≡ drop (position_or_len (λ flag. flag) left) left → first ≡ number + (length flags - length left)
    → next ≡ first + length run → eqb (length run) 0 ≡ none
    → runs_of (lost_in number flags)
    ≡ cond none (runs_of (lost_in next behind))
    (record { first = first; last = next - 1 } ∷ runs_of (lost_in next behind))
next_run number flags left run behind first next none left_is run_is behind_is first_is next_is none_is =
    go (behind_set flags)
  where
    passed : ℕ
    passed = position_or_len not flags

    Goal : Type 0
    Goal = runs_of (lost_in number flags)
        ≡ cond none (runs_of (lost_in next behind))
        (record { first = first; last = next - 1 } ∷ runs_of (lost_in next behind))

    go : (drop passed flags ≡ []) ⊎ ((rest : List Bool) × (drop passed flags ≡ false ∷ rest)) → Goal
    go (inl end) =
        let no_left : left ≡ [] = left_is ∙ end in
        let no_run : run ≡ [] =
        run_is ∙ ap (λ l. take (position_or_len (λ flag. flag) l) l) no_left in
        let no_more : behind ≡ [] =
        behind_is ∙ ap (λ l. drop (position_or_len (λ flag. flag) l) l) no_left in
        let is : none ≡ true = sym none_is ∙ ap (λ l. eqb (length l) 0) no_run in
        ap runs_of (skipped number flags ∙ ap (lost_in (number + passed)) end)
        ∙ sym (ap (λ l. runs_of (lost_in next l)) no_more)
        ∙ sym (ap (λ b. cond b (runs_of (lost_in next behind))
        (record { first = first; last = next - 1 } ∷ runs_of (lost_in next behind))) is)
    go (inr (rest, begins)) =
        let left_as : left ≡ false ∷ rest = left_is ∙ begins in
        let more = position_or_len (λ flag. flag) rest in
        let run_as : length run ≡ suc more = run_long left run rest left_as run_is in
        let behind_as : behind ≡ drop more rest =
        behind_is ∙ ap (λ l. drop (position_or_len (λ flag. flag) l) l) left_as
        ∙ sym (ap (λ j. drop j (false ∷ rest)) one_more) in
        let counted : length flags ≡ passed + length left =
        omega (arith, ap length left_is, length-drop passed flags, prefix_len-le-length (λ flag. not (not flag)) flags)
        in
        let first_as : first ≡ number + passed = omega (arith, first_is, counted) in
        let next_as : next ≡ first + suc more = omega (arith, next_is, run_as) in
        let last_as : next - 1 ≡ first + more = omega (arith, next_as) in
        let is : none ≡ false = sym none_is ∙ ne_eqb (length run) 0 (λ e. omega (arith, e, run_as)) in
        ap runs_of (skipped number flags ∙ ap (lost_in (number + passed)) begins)
        ∙ ap (λ n. runs_of (lost_in n (false ∷ rest))) (sym first_as)
        ∙ first_run first rest
        ∙ sym ((λ i. record { first = first; last = last_as i } ∷ runs_of (lost_in (next_as i) (behind_as i))))
        ∙ sym (ap (λ b. cond b (runs_of (lost_in next behind))
        (record { first = first; last = next - 1 } ∷ runs_of (lost_in next behind))) is)
      where
        one_more : suc (position_or_len (λ flag. flag) rest) ≡ 1 + position_or_len (λ flag. flag) rest
        one_more = omega arith
