-- The numbers that flags say, one entry after the other.
use Rattle.std.proofs.Common.{◌≡◌, ℕ, suc, ◌+◌, ◌<◌, ◌++◌, Bool, true, false, List, [], ◌∷◌, drop, get_or, length}
use Rattle.std.proofs.Common.{refl, sym, ap, ◌∙◌, append_assoc, arith}
use Rattle.std.proofs.lemmas.List.{append-nil, drop_more}
use Rattle.salvaging.specs.Entries.{Entry, entry_number}
use Rattle.salvaging.specs.Far.{numbers_of}
use Rattle.salvaging.specs.steps.Farness.{with_number}

-- These are the numbers so far, and with those of the rest they are all.
pub record FlaggedSo (entries : List Entry) (flags : List Bool) (rest : List Entry) (at : ℕ) (numbers : List ℕ)
    : Type 0 where
  pub so_far : numbers ++ numbers_of rest (drop at flags) ≡ numbers_of entries flags
  pub left : length flags ≡ at + length rest

pub flagged_start : (entries : List Entry) (flags : List Bool) (numbers : List ℕ) → length flags ≡ length entries
    → numbers ≡ [] → FlaggedSo entries flags entries 0 numbers
flagged_start entries flags numbers long none = record {
  so_far = ap (λ l. l ++ numbers_of entries flags) none;
  left = omega (arith, long);
}

module _ (entries : List Entry) (flags : List Bool) (rest : List Entry) (at : ℕ) (numbers : List ℕ)
    (s : FlaggedSo entries flags rest at numbers) (entry : Entry) (later : List Entry) (parted : rest ≡ entry ∷ later)
  where
    pub flag_within : at < length flags
    flag_within = let left = s.left in let long = ap length parted in omega (arith, left, long)

    pub flagged_next : (flag d : Bool) → flag ≡ get_or flags at d → (number : ℕ) → number ≡ entry_number entry
        → (more : List ℕ) → more ≡ with_number flag number numbers → (next : ℕ) → next ≡ suc at
        → FlaggedSo entries flags later next more
    flagged_next flag d is number number_is more more_is next next_is = record {
      so_far =
          ap (λ k. more ++ numbers_of later (drop k flags)) (next_is ∙ one_more at)
          ∙ ap (λ l. l ++ numbers_of later (drop (at + 1) flags)) (more_is ∙ ap (λ n. with_number flag n numbers) number_is)
          ∙ by_flag flag (drop (at + 1) flags)
          ∙ ap (λ l. numbers ++ numbers_of l (flag ∷ drop (at + 1) flags)) (sym parted)
          ∙ ap (λ b. numbers ++ numbers_of rest (b ∷ drop (at + 1) flags)) is
          ∙ ap (λ l. numbers ++ numbers_of rest l) (sym (drop_more flags at d flag_within))
          ∙ s.so_far;
      left = let left = s.left in let long = ap length parted in omega (arith, left, long, next_is);
    }
      where
        one_more : (n : ℕ) → suc n ≡ n + 1
        one_more n = omega arith

        by_flag : (b : Bool) (fs : List Bool) → with_number b (entry_number entry) numbers ++ numbers_of later fs
            ≡ numbers ++ numbers_of (entry ∷ later) (b ∷ fs)
        by_flag true fs = append_assoc numbers (entry_number entry ∷ []) (numbers_of later fs)
        by_flag false fs = refl

pub flagged_end : (entries : List Entry) (flags : List Bool) (rest : List Entry) (at : ℕ) (numbers : List ℕ)
    → FlaggedSo entries flags rest at numbers → rest ≡ [] → numbers ≡ numbers_of entries flags
flagged_end entries flags rest at numbers s none =
    sym (append-nil numbers) ∙ ap (λ l. numbers ++ numbers_of l (drop at flags)) (sym none) ∙ s.so_far
