-- What is reported of gaps and far numbers, one entry after the other.
use Rattle.std.proofs.Common.{◌≡◌, ℕ, suc, ◌+◌, ◌<◌, ◌≤◌, ◌++◌, Bool, List, [], ◌∷◌, drop, get_or, length}
use Rattle.std.proofs.Common.{sym, ap, ◌∙◌, append_assoc, arith}
use Rattle.std.proofs.lemmas.List.{append-nil, drop_more}
use Rattle.salvaging.specs.Entries.{Entry}
use Rattle.salvaging.specs.FarGaps.{believed_behind, far_among, far_if, gap_before, reported_gaps}
use Rattle.salvaging.specs.declared.far_number.FarNumber.{FarNumber}
use Rattle.salvaging.specs.declared.far_number.FarTreatment.{FarTreatment}

one_more : (n : ℕ) → suc n ≡ n + 1
one_more n = omega arith

-- This is reported so far, and with what is of the rest it is all.
pub record GapsSo (entries : List Entry) (flags : List Bool) (rest : List Entry) (at next : ℕ) (gaps : List ℕ)
    : Type 0 where
  pub so_far : gaps ++ reported_gaps next rest (drop at flags) ≡ reported_gaps 0 entries flags
  pub left : at + length rest ≤ length flags

pub gaps_start : (entries : List Entry) (flags : List Bool) (gaps : List ℕ) → length entries ≤ length flags
    → gaps ≡ [] → GapsSo entries flags entries 0 0 gaps
gaps_start entries flags gaps long none = record {
  so_far = ap (λ l. l ++ reported_gaps 0 entries flags) none;
  left = omega (arith, long);
}

module _ (entries : List Entry) (flags : List Bool) (rest : List Entry) (at next : ℕ) (gaps : List ℕ)
    (s : GapsSo entries flags rest at next gaps) (entry : Entry) (later : List Entry) (parted : rest ≡ entry ∷ later)
  where
    pub gap_within : at < length flags
    gap_within = let left = s.left in let long = ap length parted in omega (arith, left, long)

    pub gaps_next : (flag d : Bool) → flag ≡ get_or flags at d → (more : List ℕ)
        → more ≡ gaps ++ gap_before flag next entry → (behind : ℕ) → behind ≡ believed_behind flag next entry
        → (after : ℕ) → after ≡ suc at → GapsSo entries flags later after behind more
    gaps_next flag d is more more_is behind behind_is after after_is = record {
      so_far =
          ap (λ k. more ++ reported_gaps behind later (drop k flags)) (after_is ∙ one_more at)
          ∙ ap (λ l. l ++ reported_gaps behind later (drop (at + 1) flags)) more_is
          ∙ ap (λ n. (gaps ++ gap_before flag next entry) ++ reported_gaps n later (drop (at + 1) flags)) behind_is
          ∙ append_assoc gaps (gap_before flag next entry)
          (reported_gaps (believed_behind flag next entry) later (drop (at + 1) flags))
          ∙ ap (λ l. gaps ++ reported_gaps next l (flag ∷ drop (at + 1) flags)) (sym parted)
          ∙ ap (λ b. gaps ++ reported_gaps next rest (b ∷ drop (at + 1) flags)) is
          ∙ ap (λ l. gaps ++ reported_gaps next rest l) (sym (drop_more flags at d gap_within))
          ∙ s.so_far;
      left = let left = s.left in let long = ap length parted in omega (arith, left, long, after_is);
    }

pub gaps_end : (entries : List Entry) (flags : List Bool) (rest : List Entry) (at next : ℕ) (gaps : List ℕ)
    → GapsSo entries flags rest at next gaps → rest ≡ [] → gaps ≡ reported_gaps 0 entries flags
gaps_end entries flags rest at next gaps s none =
    sym (append-nil gaps) ∙ ap (λ l. gaps ++ reported_gaps next l (drop at flags)) (sym none) ∙ s.so_far

module _ {M : Type 0} (treats : M → FarTreatment) where
  -- These are the far numbers so far, and with those of the rest they are all.
  pub record FarSo (entries : List Entry) (kept : List M) (flags : List Bool) (rest : List Entry) (at : ℕ)
      (numbers : List FarNumber) : Type 0 where
    pub so_far : numbers ++ far_among treats rest (drop at kept) (drop at flags)
        ≡ far_among treats entries kept flags
    pub left : at + length rest ≤ length flags
    pub left_kept : at + length rest ≤ length kept

  pub far_start : (entries : List Entry) (kept : List M) (flags : List Bool) (numbers : List FarNumber)
      → length entries ≤ length kept → length entries ≤ length flags → numbers ≡ []
      → FarSo entries kept flags entries 0 numbers
  far_start entries kept flags numbers long_kept long none = record {
    so_far = ap (λ l. l ++ far_among treats entries kept flags) none;
    left = omega (arith, long);
    left_kept = omega (arith, long_kept);
  }

  module _ (entries : List Entry) (kept : List M) (flags : List Bool) (rest : List Entry) (at : ℕ)
      (numbers : List FarNumber) (s : FarSo entries kept flags rest at numbers) (entry : Entry) (later : List Entry)
      (parted : rest ≡ entry ∷ later) where
    pub far_within : at < length flags
    far_within = let left = s.left in let long = ap length parted in omega (arith, left, long)

    pub kept_within : at < length kept
    kept_within = let left = s.left_kept in let long = ap length parted in omega (arith, left, long)

    pub far_next : (flag d : Bool) → flag ≡ get_or flags at d → (one other : M) → one ≡ get_or kept at other
        → (more : List FarNumber) → more ≡ numbers ++ far_if flag entry (treats one) → (after : ℕ) → after ≡ suc at
        → FarSo entries kept flags later after more
    far_next flag d is one other one_is more more_is after after_is = record {
      so_far =
          ap (λ k. more ++ far_among treats later (drop k kept) (drop k flags)) (after_is ∙ one_more at)
          ∙ ap (λ l. l ++ far_among treats later (drop (at + 1) kept) (drop (at + 1) flags)) more_is
          ∙ append_assoc numbers (far_if flag entry (treats one))
          (far_among treats later (drop (at + 1) kept) (drop (at + 1) flags))
          ∙ ap (λ l. numbers ++ far_among treats l (one ∷ drop (at + 1) kept) (flag ∷ drop (at + 1) flags)) (sym parted)
          ∙ ap (λ b. numbers ++ far_among treats rest (one ∷ drop (at + 1) kept) (b ∷ drop (at + 1) flags)) is
          ∙ ap (λ l. numbers ++ far_among treats rest (one ∷ drop (at + 1) kept) l)
          (sym (drop_more flags at d far_within))
          ∙ ap (λ o. numbers ++ far_among treats rest (o ∷ drop (at + 1) kept) (drop at flags)) one_is
          ∙ ap (λ l. numbers ++ far_among treats rest l (drop at flags)) (sym (drop_more kept at other kept_within))
          ∙ s.so_far;
      left = let left = s.left in let long = ap length parted in omega (arith, left, long, after_is);
      left_kept = let left = s.left_kept in let long = ap length parted in omega (arith, left, long, after_is);
    }

  pub far_end : (entries : List Entry) (kept : List M) (flags : List Bool) (rest : List Entry) (at : ℕ)
      (numbers : List FarNumber) → FarSo entries kept flags rest at numbers → rest ≡ []
      → numbers ≡ far_among treats entries kept flags
  far_end entries kept flags rest at numbers s none =
      sym (append-nil numbers) ∙ ap (λ l. numbers ++ far_among treats l (drop at kept) (drop at flags)) (sym none)
      ∙ s.so_far
