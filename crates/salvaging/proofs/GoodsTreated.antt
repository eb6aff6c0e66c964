-- The entries that are good are those that add events or are passed over.
use Rattle.std.proofs.Common.{◌≡◌, ℕ, ◌+◌, ◌-◌, ◌++◌, Bool, true, false, List, [], ◌∷◌, Option, map, refl, sym, ap, subst}
use Rattle.std.proofs.Common.{◌∙◌}
use Rattle.std.proofs.lemmas.List.{map-append}
use Rattle.rvclass.specs.Words.{Words, IsProgram}
use Rattle.payload.specs.declared.mode.Mode.{Mode}
use Rattle.losses.specs.Runs.{Run, first_run, longer, run_behind, run_of}
use Rattle.salvaging.specs.Ends.{HartLeaves, none_good}
use Rattle.salvaging.specs.Entries.{Entry, Used, Doubtful, next_used}
use Rattle.salvaging.specs.Leaving.{EntriesLeave, UsedLeaves}
use Rattle.salvaging.specs.LeftParts.{LeftPart}
use Rattle.salvaging.specs.Shares.{AllShareBeyond, EntriesShare, HartShares, Share, SharesBeyond, UsedShares}
use Rattle.salvaging.specs.Shares.{Adds, Passes, Spoils, StandsAlone, Doubts}
use Rattle.salvaging.specs.Treatments.{is_good_treatment, treatment_of}
use Rattle.salvaging.specs.steps.Trails.{goods_of}
use Rattle.salvaging.proofs.EntriesOfLog.{same_packet}
use Rattle.salvaging.proofs.OneWay.{good_not_bad}

pub goods_append : (front back : List Share) → goods_of (front ++ back) ≡ goods_of front ++ goods_of back
goods_append front back =
    ap (map is_good_treatment) (map-append treatment_of front back)
    ∙ map-append is_good_treatment (map treatment_of front) (map treatment_of back)

-- Beyond the end none is good.
module _ (words : Words) (mode : Mode) where
  one_beyond : (entry : Entry) (following : Option ℕ) (share : Share) → SharesBeyond words mode entry following share
      → false ≡ is_good_treatment (treatment_of share)
  one_beyond entry following (Spoils why) does = refl
  one_beyond entry following StandsAlone does = refl
  one_beyond entry following Doubts does = refl
  one_beyond (Used number place payload) following (Adds events) does = absurd does
  one_beyond (Used number place payload) following Passes does = absurd does
  one_beyond (Doubtful number first second) following (Adds events) does = absurd does
  one_beyond (Doubtful number first second) following Passes does = absurd does

  pub beyond_good : (entries : List Entry) (shares : List Share) → AllShareBeyond words mode entries shares
      → none_good entries ≡ goods_of shares
  beyond_good [] [] share = refl
  beyond_good [] (one ∷ shares) share = absurd share
  beyond_good (entry ∷ entries) [] share = absurd share
  beyond_good (entry ∷ entries) (one ∷ shares) share =
      ap (λ l. false ∷ l) (beyond_good entries shares share.1)
      ∙ ap (λ b. b ∷ goods_of shares) (one_beyond entry (next_used entries) one share.0)

module _ (words : Words) (program : IsProgram words) (mode : Mode) where
  module _ (run : Run) (number place : ℕ) (payload : List ℕ) (following : Option ℕ) (goods : List Bool)
      (shares : List Share) (Leaves : Run → List LeftPart → Type 0) (Rest : Run → Type 0)
      (more : (behind : Run) (rest : List LeftPart) → Leaves behind rest → Rest behind → goods ≡ goods_of shares) where
    used_good : (good : Bool) (share : Share) (parts : List LeftPart)
        → UsedLeaves words mode run number place payload following good Leaves parts
        → UsedShares words mode run payload following share Rest → good ∷ goods ≡ goods_of (share ∷ shares)
    used_good true (Spoils why) parts (p, good, follows) (bad, rest) =
        absurd (good_not_bad words program mode run payload following p why good bad)
    used_good true (Adds events) parts (p, good, follows) (q, too, given, rest) =
        ap (λ l. true ∷ l) (more (longer run (p ∷ [])) parts follows
        (subst (λ x. Rest (longer run (x ∷ []))) (same_packet payload q p too.read good.read) rest))
    used_good true Passes parts (p, good, follows) (q, too, given, rest) =
        ap (λ l. true ∷ l) (more (longer run (p ∷ [])) parts follows
        (subst (λ x. Rest (longer run (x ∷ []))) (same_packet payload q p too.read good.read) rest))
    used_good true StandsAlone parts leaves does = absurd does.2
    used_good true Doubts parts leaves does = absurd does.2
    used_good false (Spoils fault) parts (why, bad, over, left, rest, is, follows) (bad_too, rests) =
        ap (λ l. false ∷ l) (more (run_of 1 []) rest follows rests)
    used_good false (Adds events) parts leaves does =
        absurd (good_not_bad words program mode run payload following does.0 leaves.0 does.1 leaves.1)
    used_good false Passes parts leaves does =
        absurd (good_not_bad words program mode run payload following does.0 leaves.0 does.1 leaves.1)
    used_good false StandsAlone parts leaves does =
        absurd (good_not_bad words program mode run payload following does.0 leaves.0 does.1 leaves.1)
    used_good false Doubts parts leaves does =
        absurd (good_not_bad words program mode run payload following does.0 leaves.0 does.1 leaves.1)

  entries_good : (entries : List Entry) (run : Run) (next : ℕ) (goods : List Bool) (parts : List LeftPart)
      (shares : List Share) → EntriesLeave words mode run next entries goods parts
      → EntriesShare words mode run next entries shares → goods ≡ goods_of shares
  entries_good [] run next [] parts [] leaves share = refl
  entries_good [] run next [] parts (one ∷ shares) leaves share = absurd share
  entries_good [] run next (good ∷ goods) parts shares leaves share = absurd leaves
  entries_good (entry ∷ entries) run next [] parts shares leaves share = absurd leaves
  entries_good (entry ∷ entries) run next (good ∷ goods) parts [] leaves share = absurd share
  entries_good (Used number place payload ∷ entries) run next (good ∷ goods) parts (one ∷ shares)
      (over, before, rest, is, used) share =
      used_good (run_behind (number - next) run) number place payload (next_used entries) goods shares
      (λ behind. EntriesLeave words mode behind (number + 1) entries goods)
      (λ behind. EntriesShare words mode behind (number + 1) entries shares)
      (λ behind left follows rests. entries_good entries behind (number + 1) goods left shares follows rests)
      good one rest used share
  entries_good (Doubtful number first second ∷ entries) run next (good ∷ goods) parts (one ∷ shares)
      (bad, over, left, rest, is, follows) (doubts, rests) =
      ap (λ b. b ∷ goods) bad
      ∙ ap (λ l. false ∷ l) (entries_good entries (run_of 1 []) number goods rest shares follows rests)
      ∙ sym (ap (λ s. goods_of (s ∷ shares)) doubts)

  -- The same are good to what a hart leaves and to what its entries do.
  pub hart_good : (upto beyond : List Entry) (goods : List Bool) (parts : List LeftPart) (shares : List Share)
      → HartLeaves words mode upto beyond goods parts → HartShares words mode upto beyond shares
      → goods ≡ goods_of shares
  hart_good upto beyond goods parts shares leaves share =
      let first = entries_good upto first_run 0 leaves.good_first leaves.first share.first leaves.leaves
      share.shares_upto in
      leaves.goods_are ∙ ap (λ l. l ++ none_good beyond) first
      ∙ ap (λ l. goods_of share.first ++ l) (beyond_good words mode beyond share.after share.shares_beyond)
      ∙ sym (ap goods_of share.whole ∙ goods_append share.first share.after)
