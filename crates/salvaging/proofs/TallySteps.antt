-- How many of a hart's numbers are used, by what its entries do and among its messages.
use Rattle.std.proofs.Common.{◌≡◌, ℕ, suc, ◌+◌, ◌-◌, ◌≤◌, ◌++◌, ◌&&◌, ◌==◌, Bool, true, false, cond, List, [], ◌∷◌}
use Rattle.std.proofs.Common.{Option, length, map, refl, sym, ap, ◌∙◌, arith}
use Rattle.std.specs.Prelude.{count_by}
use Rattle.std.specs.Str.{bytes_eq}
use Rattle.std.proofs.lemmas.Bool.{eqb-true}
use Rattle.std.proofs.lemmas.List.Sums.{sum_by-append}
use Rattle.rvclass.specs.Words.{Words}
use Rattle.payload.specs.declared.mode.Mode.{Mode}
use Rattle.losses.specs.Runs.{Run, first_run, run_behind, run_of}
use Rattle.salvaging.specs.Entries.{Entry, Used, Doubtful, entry_number, is_used, next_used}
use Rattle.salvaging.specs.FarGaps.{far_among, far_if, treatment_of_far}
use Rattle.salvaging.specs.Late.{counted}
use Rattle.salvaging.specs.Shares.{AllShareBeyond, EntriesShare, HartShares, Share, SharesBeyond, UsedShares}
use Rattle.salvaging.specs.Shares.{Adds, Passes, Spoils, StandsAlone, Doubts}
use Rattle.salvaging.specs.Tallies.{used_count}
use Rattle.salvaging.specs.TreatedCounts.{makes_passed, makes_taken}
use Rattle.salvaging.specs.Treatments.{is_good_treatment, treatment_of}
use Rattle.salvaging.specs.declared.mark.Verdict.{Verdict}
use Rattle.salvaging.specs.declared.treatment.Treatment.{Treatment}
use Rattle.salvaging.specs.steps.Arrivals.{Arrival}
use Rattle.salvaging.specs.steps.Grouping.{are_alike, copies_by, copies_on, entries_by, entries_on, entry_by}
use Rattle.salvaging.specs.steps.Grouping.{entry_with, join_or_begin, one_more}
use Rattle.salvaging.specs.steps.Marks.{far_verdict, is_good, is_passed, is_taken, is_used as says_used, verdict_of}
use Rattle.salvaging.specs.steps.Trails.{goods_of}
use Rattle.salvaging.proofs.CountedRows.{count_cons}
use Rattle.salvaging.proofs.OneMore.{number_kept}
use Rattle.salvaging.proofs.PartsTreated.{used_rest}
use Rattle.salvaging.proofs.TreatedTallies.{share_cons, share_count}

-- This is done with a number that is used.
abbrev pub is_used_by : Treatment → Bool
is_used_by treatment = says_used (verdict_of treatment)

-- Verdicts count as what entries do.
pub count_verdicts : (p : Verdict → Bool) (q : Treatment → Bool)
    → ((share : Share) → p (verdict_of (treatment_of share)) ≡ q (treatment_of share)) → (shares : List Share)
    → count_by p (map verdict_of (map treatment_of shares)) ≡ share_count q shares
count_verdicts p q same [] = refl
count_verdicts p q same (share ∷ shares) =
    let verdicts = map verdict_of (map treatment_of shares) in
    count_cons p (verdict_of (treatment_of share)) verdicts
    ∙ ap (λ b. cond b (suc (count_by p verdicts)) (count_by p verdicts)) (same share)
    ∙ ap (λ n. cond (q (treatment_of share)) (suc n) n) (count_verdicts p q same shares)
    ∙ sym (count_cons (λ (one : Share). q (treatment_of one)) share shares)

pub says_taken : (share : Share) → is_taken (verdict_of (treatment_of share)) ≡ makes_taken (treatment_of share)
says_taken (Adds events) = refl
says_taken Passes = refl
says_taken (Spoils why) = refl
says_taken StandsAlone = refl
says_taken Doubts = refl

pub says_passed : (share : Share) → is_passed (verdict_of (treatment_of share)) ≡ makes_passed (treatment_of share)
says_passed (Adds events) = refl
says_passed Passes = refl
says_passed (Spoils why) = refl
says_passed StandsAlone = refl
says_passed Doubts = refl

says_good : (share : Share) → is_good (verdict_of (treatment_of share)) ≡ is_good_treatment (treatment_of share)
says_good (Adds events) = refl
says_good Passes = refl
says_good (Spoils why) = refl
says_good StandsAlone = refl
says_good Doubts = refl

pub verdicts_good : (shares : List Share) → map is_good (map verdict_of (map treatment_of shares)) ≡ goods_of shares
verdicts_good [] = refl
verdicts_good (share ∷ shares) =
    ap (λ b. b ∷ map is_good (map verdict_of (map treatment_of shares))) (says_good share)
    ∙ ap (λ l. is_good_treatment (treatment_of share) ∷ l) (verdicts_good shares)

-- The far numbers by verdicts are those by what entries do.
pub far_verdicts : (entries : List Entry) (shares : List Share) (flags : List Bool)
    → far_among far_verdict entries (map verdict_of (map treatment_of shares)) flags
    ≡ far_among (λ share. treatment_of_far (treatment_of share)) entries shares flags
far_verdicts [] shares flags = refl
far_verdicts (entry ∷ entries) [] flags = refl
far_verdicts (entry ∷ entries) (share ∷ shares) [] = refl
far_verdicts (entry ∷ entries) (share ∷ shares) (flag ∷ flags) =
    ap (λ t. far_if flag entry t ++ far_among far_verdict entries (map verdict_of (map treatment_of shares)) flags)
    (says_far share)
    ∙ ap (λ l. far_if flag entry (treatment_of_far (treatment_of share)) ++ l) (far_verdicts entries shares flags)
  where
    says_far : (share : Share) → far_verdict (verdict_of (treatment_of share)) ≡ treatment_of_far (treatment_of share)
    says_far (Adds events) = refl
    says_far Passes = refl
    says_far (Spoils why) = refl
    says_far StandsAlone = refl
    says_far Doubts = refl

module _ (words : Words) (mode : Mode) where
  used_by_share : (run : Run) (payload : List ℕ) (following : Option ℕ) (share : Share) (Rest : Run → Type 0)
      → UsedShares words mode run payload following share Rest → is_used_by (treatment_of share) ≡ true
  used_by_share run payload following (Adds events) Rest does = refl
  used_by_share run payload following Passes Rest does = refl
  used_by_share run payload following (Spoils why) Rest does = refl
  used_by_share run payload following StandsAlone Rest does = refl
  used_by_share run payload following Doubts Rest (packet, good, none, rest) = absurd none

  entries_used : (entries : List Entry) (run : Run) (next : ℕ) (shares : List Share)
      → EntriesShare words mode run next entries shares → share_count is_used_by shares ≡ used_count entries
  entries_used [] run next [] share = refl
  entries_used [] run next (one ∷ shares) share = absurd share
  entries_used (entry ∷ entries) run next [] share = absurd share
  entries_used (Used number place payload ∷ entries) run next (one ∷ shares) share =
      let behind = run_behind (number - next) run in
      let rest = used_rest words mode behind payload (next_used entries) one
      (λ later. EntriesShare words mode later (number + 1) entries shares) share in
      share_cons is_used_by one shares
      ∙ ap (λ b. counted b (share_count is_used_by shares)) (used_by_share behind payload (next_used entries) one
      (λ later. EntriesShare words mode later (number + 1) entries shares) share)
      ∙ ap suc (entries_used entries rest.0 (number + 1) shares rest.1)
  entries_used (Doubtful number first second ∷ entries) run next (one ∷ shares) share =
      share_cons is_used_by one shares
      ∙ ap (λ s. counted (is_used_by (treatment_of s)) (share_count is_used_by shares)) share.0
      ∙ entries_used entries (run_of 1 []) number shares share.1

  used_beyond : (entry : Entry) (following : Option ℕ) (share : Share) → SharesBeyond words mode entry following share
      → is_used_by (treatment_of share) ≡ is_used entry
  used_beyond (Used number place payload) following (Adds events) does = refl
  used_beyond (Used number place payload) following Passes does = refl
  used_beyond (Used number place payload) following (Spoils why) does = refl
  used_beyond (Used number place payload) following StandsAlone does = refl
  used_beyond (Used number place payload) following Doubts does = absurd does
  used_beyond (Doubtful number first second) following Doubts does = refl
  used_beyond (Doubtful number first second) following (Adds events) does = absurd does
  used_beyond (Doubtful number first second) following Passes does = absurd does
  used_beyond (Doubtful number first second) following (Spoils why) does = absurd does
  used_beyond (Doubtful number first second) following StandsAlone does = absurd does

  beyond_used : (entries : List Entry) (shares : List Share) → AllShareBeyond words mode entries shares
      → share_count is_used_by shares ≡ used_count entries
  beyond_used [] [] share = refl
  beyond_used [] (one ∷ shares) share = absurd share
  beyond_used (entry ∷ entries) [] share = absurd share
  beyond_used (entry ∷ entries) (one ∷ shares) share =
      share_cons is_used_by one shares
      ∙ ap (λ b. counted b (share_count is_used_by shares)) (used_beyond entry (next_used entries) one share.0)
      ∙ ap (counted (is_used entry)) (beyond_used entries shares share.1)

  used_append : (upto beyond : List Entry) → used_count (upto ++ beyond) ≡ used_count upto + used_count beyond
  used_append [] beyond = omega arith
  used_append (entry ∷ upto) beyond =
      ap (counted (is_used entry)) (used_append upto beyond) ∙ by_used (is_used entry)
    where
      by_used : (b : Bool) → counted b (used_count upto + used_count beyond) ≡ counted b (used_count upto) + used_count beyond
      by_used true = omega arith
      by_used false = refl

  -- As many entries are used as do what is done with a number that is used.
  pub hart_used : (upto beyond : List Entry) (shares : List Share) → HartShares words mode upto beyond shares
      → share_count is_used_by shares ≡ used_count (upto ++ beyond)
  hart_used upto beyond shares share =
      let first = entries_used upto first_run 0 share.first share.shares_upto in
      let after = beyond_used beyond share.after share.shares_beyond in
      let both = sum_by-append (λ (one : Share). cond (is_used_by (treatment_of one)) 1 0) share.first share.after in
      let whole = ap (share_count is_used_by) share.whole in
      let all = used_append upto beyond in
      omega (arith, first, after, both, whole, all)

-- The copies and the used ones among messages in their order are no more than all.
used_on : (entry : Entry) (before : Arrival) (arrivals : List Arrival) → entry_number entry ≡ before.message.number
    → copies_on before arrivals + used_count (entries_on entry before arrivals) ≤ length arrivals + 1
used_on entry before [] numbered = by_used (is_used entry)
  where
    by_used : (b : Bool) → 0 + counted b 0 ≤ 0 + 1
    by_used true = omega arith
    by_used false = omega arith
used_on entry before (next ∷ arrivals) numbered =
    by_test (entry_number entry == next.message.number) refl
    (λ same. used_on (entry_with entry before next) next arrivals (number_kept entry before next ∙ same))
    (used_on (entry_by next) next arrivals refl)
  where
    by_alike : (b : Bool) (n m : ℕ) → n + m ≤ length arrivals + 1 → one_more b n + m ≤ suc (length arrivals) + 1
    by_alike true n m few = omega (arith, few)
    by_alike false n m few = omega (arith, few)

    by_used : (used alike : Bool) (n m : ℕ) → alike ≡ false → n + m ≤ length arrivals + 1
        → one_more alike n + counted used m ≤ suc (length arrivals) + 1
    by_used used true n m apart few = cc
    by_used true false n m apart few = omega (arith, few)
    by_used false false n m apart few = omega (arith, few)

    by_test : (same : Bool) → (entry_number entry == next.message.number) ≡ same
        → (entry_number entry ≡ next.message.number → copies_on next arrivals
        + used_count (entries_on (entry_with entry before next) next arrivals) ≤ length arrivals + 1)
        → copies_on next arrivals + used_count (entries_on (entry_by next) next arrivals) ≤ length arrivals + 1
        → copies_on before (next ∷ arrivals)
        + used_count (join_or_begin same entry before next (λ later. entries_on later next arrivals))
        ≤ suc (length arrivals) + 1
    by_test true is more new =
        by_alike (are_alike before next) (copies_on next arrivals)
        (used_count (entries_on (entry_with entry before next) next arrivals))
        (more (eqb-true (entry_number entry) next.message.number is))
    by_test false is more new =
        by_used (is_used entry) (are_alike before next) (copies_on next arrivals)
        (used_count (entries_on (entry_by next) next arrivals))
        (ap (λ b. b && bytes_eq before.message.payload next.message.payload)
        (ap (λ n. n == next.message.number) (sym numbered) ∙ is)) new

pub used_most : (arrivals : List Arrival) → copies_by arrivals + used_count (entries_by arrivals) ≤ length arrivals
used_most [] = omega arith
used_most (first ∷ arrivals) =
    let most = used_on (entry_by first) first arrivals refl in omega (arith, most)
