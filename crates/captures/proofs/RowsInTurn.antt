-- The rows of first harts and of the next, and their measures together.
use Rattle.std.proofs.Common.{◌≡◌, ℕ, ◌+◌, ◌<◌, ◌≤◌, suc, List, [], ◌∷◌, ◌++◌, Option, Some, length, take, drop}
use Rattle.std.proofs.Common.{slice_get}
use Rattle.std.proofs.Common.{refl, sym, subst, ap, ◌∙◌, arith, append_assoc, take-append-drop, cond}
use Rattle.std.specs.Prelude.{codes}
use Rattle.std.specs.Fmt.{decimal}
use Rattle.std.specs.Io.KnownBytes.{Appends}
use Rattle.std.proofs.KnownBytes.{Appends-trans}
use Rattle.std.proofs.lemmas.Bool.{lt-ltb}
use Rattle.std.proofs.lemmas.List.{append-nil, length-take-le, take_more}
use Rattle.std.proofs.lemmas.Option.{get_or_from_slice_get, slice_get_within}
use Rattle.output.specs.Begun.{AppendsBeginning}
use Rattle.output.proofs.Beginnings.{begun_behind, begun_in_front}
use Rattle.captures.specs.Measures.{together, total}
use Rattle.captures.specs.Table.{hart_rows, measure_row, total_row}
use Rattle.captures.specs.declared.measures.Measures.{Measures}
use Rattle.captures.proofs.CountedTogether.{total-snoc}

hart_rows-append : (hart : ℕ) (all others : List Measures)
    → hart_rows hart (all ++ others) ≡ hart_rows hart all ++ hart_rows (hart + length all) others
hart_rows-append hart [] others = ap (λ h. hart_rows h others) (omega arith)
hart_rows-append hart (one ∷ all) others =
    let place : hart + 1 + length all ≡ hart + suc (length all) = omega arith in
    ap (λ rows. measure_row (decimal hart) one ++ rows) (hart_rows-append (hart + 1) all others)
    ∙ sym (append_assoc (measure_row (decimal hart) one) (hart_rows (hart + 1) all)
    (hart_rows (hart + 1 + length all) others))
    ∙ ap (λ h. (measure_row (decimal hart) one ++ hart_rows (hart + 1) all) ++ hart_rows h others) place

module _ (all : List Measures) (k : ℕ) (one : Measures) (found : slice_get all k ≡ Some one) where
  within : k < length all
  within = slice_get_within all k one found

  one_more : take (k + 1) all ≡ take k all ++ one ∷ []
  one_more =
      take_more all k one within ∙ ap (λ l. take k all ++ l ∷ []) (get_or_from_slice_get all k one one found)

  rows_before : length (take k all) ≡ k
  rows_before = length-take-le k all (omega (arith, within))

  -- The measures of first harts were summed up, and then those of the next are added.
  pub next_added : (before after : Measures) → before ≡ total (take k all) → after ≡ together before one
      → after ≡ total (take (k + 1) all)
  next_added before after first added =
      added ∙ ap (λ before. together before one) first ∙ sym (total-snoc (take k all) one) ∙ sym (ap total one_more)

  pub hart_rows-next : hart_rows 0 (take (k + 1) all) ≡ hart_rows 0 (take k all) ++ measure_row (decimal k) one
  hart_rows-next =
      let place : 0 + length (take k all) ≡ k = omega (arith, rows_before) in
      ap (hart_rows 0) one_more
      ∙ hart_rows-append 0 (take k all) (one ∷ [])
      ∙ ap (λ h. hart_rows 0 (take k all) ++ hart_rows h (one ∷ [])) place
      ∙ ap (λ rows. hart_rows 0 (take k all) ++ rows) (append-nil (measure_row (decimal k) one))

  -- The rows of first harts were written, and then the next.
  pub next_written : (old mid new : Option (List ℕ)) → Appends old mid (hart_rows 0 (take k all))
      → Appends mid new (measure_row (decimal k) one) → Appends old new (hart_rows 0 (take (k + 1) all))
  next_written old mid new first then =
      subst (Appends old new) (sym hart_rows-next)
      (Appends-trans old mid new (hart_rows 0 (take k all)) (measure_row (decimal k) one) first then)

  -- The rows of first harts were written, and a prefix of the next.
  pub next_begun : (old mid new : Option (List ℕ)) → Appends old mid (hart_rows 0 (take k all))
      → AppendsBeginning (measure_row (decimal k) one) mid new → AppendsBeginning (hart_rows 0 all) old new
  next_begun old mid new first begun =
      let front = hart_rows 0 (take k all) in
      let here = measure_row (decimal k) one in
      let rest = drop (k + 1) all in
      let behind = hart_rows (0 + length (take (k + 1) all)) rest in
      let whole : hart_rows 0 all ≡ (front ++ here) ++ behind =
      ap (hart_rows 0) (sym (take-append-drop (k + 1) all))
      ∙ hart_rows-append 0 (take (k + 1) all) rest
      ∙ ap (λ rows. rows ++ behind) hart_rows-next in
      subst (λ l. AppendsBeginning l old new) (sym whole)
      (begun_in_front (front ++ here) behind old new (begun_behind front here old mid new first begun))

-- One hart and none have no row for all.
pub total_row-few : (all : List Measures) → length all ≤ 1 → total_row all ≡ []
total_row-few [] few = refl
total_row-few (one ∷ []) few = refl
total_row-few (one ∷ other ∷ others) few = absurd (omega arith)

pub total_row-several : (all : List Measures) → 1 < length all → total_row all ≡ measure_row (codes "all") (total all)
total_row-several all several =
    ap (λ is_more. cond is_more (measure_row (codes "all") (total all)) []) (lt-ltb 1 (length all) several)
