-- A message is late where the earliest good message with a greater number came before it.
use Rattle.std.proofs.Common.{◌≡◌, ◌⊎◌, inl, inr, ℕ, ◌≤◌, ◌<◌, ◌||◌, Bool, true, false, List, [], ◌∷◌, Option, Some}
use Rattle.std.proofs.Common.{None}
use Rattle.std.proofs.Common.{refl, sym, ap, ◌∙◌, arith}
use Rattle.std.specs.Prelude.{nat_lt}
use Rattle.std.proofs.lemmas.Bool.{cases_lt, lt-ltb, le-ltb, ltb-true, ltb-false}
use Rattle.salvaging.specs.Entries.{Entry, Used, Doubtful}
use Rattle.salvaging.specs.Late.{is_late}
use Rattle.salvaging.specs.steps.Lateness.{comes_before, earlier_of, earliest, kept_or}

either_way : (before place : ℕ) (kept : Option ℕ)
    → (nat_lt before place || comes_before kept place) ≡ comes_before (earlier_of kept before) place
either_way before place None = by_test (nat_lt before place)
  where
    by_test : (test : Bool) → (test || false) ≡ test
    by_test true = refl
    by_test false = refl
either_way before place (Some first) = by_order (nat_lt first before) refl
  where
    by_order : (earlier : Bool) → nat_lt first before ≡ earlier
        → (nat_lt before place || nat_lt first place) ≡ comes_before (kept_or earlier (Some first) before) place
    by_order true is = by_place (cases_lt before place)
      where
        by_place : (before < place) ⊎ (place ≤ before)
            → (nat_lt before place || nat_lt first place) ≡ nat_lt first place
        by_place (inl below) =
            let least = ltb-true first before is in
            ap (λ b. b || nat_lt first place) (lt-ltb before place below)
            ∙ sym (lt-ltb first place (omega (arith, least, below)))
        by_place (inr over) = ap (λ b. b || nat_lt first place) (le-ltb before place over)
    by_order false is = by_place (cases_lt first place)
      where
        by_place : (first < place) ⊎ (place ≤ first)
            → (nat_lt before place || nat_lt first place) ≡ nat_lt before place
        by_place (inl below) =
            let least = ltb-false first before is in
            let here = lt-ltb before place (omega (arith, least, below)) in
            ap (λ b. b || nat_lt first place) here ∙ sym here
        by_place (inr over) = ap (λ b. nat_lt before place || b) (le-ltb first place over) ∙ no_more (nat_lt before
            place)
          where
            no_more : (test : Bool) → (test || false) ≡ test
            no_more true = refl
            no_more false = refl

pub late_by_earliest : (place : ℕ) (entries : List Entry) (goods : List Bool)
    → is_late place entries goods ≡ comes_before (earliest entries goods) place
late_by_earliest place [] goods = refl
late_by_earliest place (entry ∷ entries) [] = refl
late_by_earliest place (Used number before payload ∷ entries) (true ∷ goods) =
    ap (λ b. nat_lt before place || b) (late_by_earliest place entries goods)
    ∙ either_way before place (earliest entries goods)
late_by_earliest place (Used number before payload ∷ entries) (false ∷ goods) = late_by_earliest place entries goods
late_by_earliest place (Doubtful number one other ∷ entries) (good ∷ goods) = late_by_earliest place entries goods
