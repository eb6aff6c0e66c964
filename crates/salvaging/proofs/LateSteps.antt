-- How many messages are late, from an entry to the one before it.
use Rattle.std.proofs.Common.{◌≡◌, ℕ, zero, suc, ◌+◌, ◌-◌, ◌≤◌, ◌<◌, ◌++◌, Bool, true, false, List, [], ◌∷◌, Option}
use Rattle.std.specs.Prelude.{not}
use Rattle.std.proofs.Common.{◌&&◌, drop, get_or, length, map, refl, sym, ap, subst, ◌∙◌, arith, append_assoc}
use Rattle.std.proofs.lemmas.List.{get_or_default, length_push}
use Rattle.salvaging.specs.Entries.{Entry, Used, Doubtful}
use Rattle.salvaging.specs.Far.{believed}
use Rattle.salvaging.specs.Late.{counted, late}
use Rattle.salvaging.specs.declared.mark.Verdict.{Verdict}
use Rattle.salvaging.specs.steps.Marks.{is_good}
use Rattle.salvaging.specs.steps.Lateness.{earliest, earliest_with, is_late_behind}
use Rattle.salvaging.proofs.LateByEarliest.{late_by_earliest}

-- Of the entries behind these so many are late, and this is the place of the earliest believed message. The verdict on
-- the first of them, and whether it is far, stand at this place.
pub record LateSo (entries : List Entry) (verdicts : List Verdict) (far : List Bool) (count : ℕ) (first : Option ℕ)
    (rest : List Entry) (at : ℕ) : Type 0 where
  pub later : List Entry
  pub whole : entries ≡ rest ++ later
  pub at_is : at ≡ length rest
  pub counted : count ≡ late later (believed (map is_good (drop at verdicts)) (drop at far))
  pub first_is : first ≡ earliest later (believed (map is_good (drop at verdicts)) (drop at far))
  pub few : count + at ≤ length verdicts

drop_one : {X : Type 0} (xs : List X) (at : ℕ) (x : X) → at < length xs → x ≡ get_or xs at x
    → drop at xs ≡ x ∷ drop (suc at) xs
drop_one [] at x within is = absurd (omega (arith, within))
drop_one (one ∷ xs) zero x within is = ap (λ y. y ∷ xs) (sym is)
drop_one (one ∷ xs) (suc at) x within is = drop_one xs at x (omega (arith, within)) is

-- What is kept of the last of these entries stands before the others.
pub one_less : (at : ℕ) (rest front : List Entry) (entry : Entry) → at ≡ length rest → rest ≡ front ++ entry ∷ []
    → at ≡ suc (length front)
one_less at rest front entry here parted =
    let long = ap length parted ∙ length_push front entry in omega (arith, here, long)

pub drop_last : {X : Type 0} (xs : List X) (at : ℕ) (one d : X) → at - 1 < length xs → one ≡ get_or xs (at - 1) d
    → suc (at - 1) ≡ at → drop (at - 1) xs ≡ one ∷ drop at xs
drop_last xs at one d within is back =
    drop_one xs (at - 1) one within (is ∙ get_or_default xs (at - 1) d one within) ∙ ap (λ n. one ∷ drop n xs) back

-- One entry before others.
late_one : (entry : Entry) (entries : List Entry) (good : Bool) (goods : List Bool)
    → late (entry ∷ entries) (good ∷ goods)
    ≡ counted (is_late_behind entry good (earliest entries goods)) (late entries goods)
late_one (Used number place payload) entries good goods =
    ap (λ b. counted (good && b) (late entries goods)) (late_by_earliest place entries goods)
late_one (Doubtful number one other) entries good goods = refl

pub earliest_one : (entry : Entry) (entries : List Entry) (good : Bool) (goods : List Bool)
    → earliest (entry ∷ entries) (good ∷ goods) ≡ earliest_with entry good (earliest entries goods)
earliest_one (Used number place payload) entries true goods = refl
earliest_one (Used number place payload) entries false goods = refl
earliest_one (Doubtful number one other) entries true goods = refl
earliest_one (Doubtful number one other) entries false goods = refl

few_counted : (late : Bool) (count at long : ℕ) → count + suc at ≤ long → counted late count + at ≤ long
few_counted true count at long few = omega (arith, few)
few_counted false count at long few = omega (arith, few)

module _ (entries : List Entry) (verdicts : List Verdict) (far : List Bool) (long : length far ≡ length verdicts)
    (count : ℕ) (first : Option ℕ) (rest : List Entry) (at : ℕ) (l : LateSo entries verdicts far count first rest at)
    (front : List Entry) (entry : Entry) (parted : rest ≡ front ++ entry ∷ []) where
  pub late_before : (one d : Verdict) → one ≡ get_or verdicts (at - 1) d → (flag other : Bool)
      → flag ≡ get_or far (at - 1) other → (good : Bool) → good ≡ is_good one → (believes : Bool)
      → believes ≡ (good && not flag) → (is_late : Bool) → is_late ≡ is_late_behind entry believes first → (new : ℕ)
      → new ≡ counted is_late count → (earlier : Option ℕ) → earlier ≡ earliest_with entry believes first
      → LateSo entries verdicts far new earlier front (at - 1)
  late_before one d is flag other flag_is good good_is believes believes_is is_late late_is new new_is earlier
      earlier_is =
      let here = one_less at rest front entry l.at_is parted in
      let back : suc (at - 1) ≡ at = omega (arith, here) in
      let few = l.few in
      let mark = drop_last verdicts at one d (omega (arith, few, here)) is back in
      let mark_far = drop_last far at flag other (omega (arith, few, here, long)) flag_is back in
      let es = l.later in
      let gs = believed (map is_good (drop at verdicts)) (drop at far) in
      let own : believes ≡ (is_good one && not flag) = believes_is ∙ ap (λ b. b && not flag) good_is in
      let all : believed (map is_good (drop (at - 1) verdicts)) (drop (at - 1) far) ≡ believes ∷ gs =
      ap (λ ts. believed (map is_good ts) (drop (at - 1) far)) mark
      ∙ ap (λ fs. believed (map is_good (one ∷ drop at verdicts)) fs) mark_far ∙ ap (λ b. b ∷ gs) (sym own) in
      record {
        later = entry ∷ es;
        whole = l.whole ∙ ap (λ l. l ++ es) parted ∙ append_assoc front (entry ∷ []) es;
        at_is = omega (arith, here);
        counted =
            new_is ∙ ap (λ b. counted b count) (late_is ∙ ap (is_late_behind entry believes) l.first_is)
            ∙ ap (counted (is_late_behind entry believes (earliest es gs))) l.counted
            ∙ sym (late_one entry es believes gs) ∙ sym (ap (late (entry ∷ es)) all);
        first_is =
            earlier_is ∙ ap (earliest_with entry believes) l.first_is ∙ sym (earliest_one entry es believes gs)
            ∙ sym (ap (earliest (entry ∷ es)) all);
        few = subst (λ n. n + (at - 1) ≤ length verdicts) (sym new_is)
            (few_counted is_late count (at - 1) (length verdicts)
            (subst (λ n. count + n ≤ length verdicts) (sym back) few));
      }

pub late_if : (test : Bool) (count more : ℕ) → test ≡ true → more ≡ count + 1 → more ≡ counted test count
late_if true count more is grown = omega (arith, grown)
late_if false count more is grown = cc

pub none_late_if : (test : Bool) (count more : ℕ) → test ≡ false → more ≡ count → more ≡ counted test count
none_late_if true count more is same = cc
none_late_if false count more is same = same
