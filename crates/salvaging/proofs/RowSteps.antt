-- The rows of a hart's numbers, from an entry to the one before it.
use Rattle.std.proofs.Common.{◌≡◌, ℕ, suc, ◌&&◌, ◌-◌, ◌≤◌, ◌++◌, Bool, List, [], ◌∷◌, Option}
use Rattle.std.proofs.Common.{false, None, drop, get_or, length, map, refl, sym, ap, subst, ◌∙◌, append_assoc, arith}
use Rattle.std.specs.Prelude.{not}
use Rattle.salvaging.specs.Entries.{Entry, Used, Doubtful, entry_number}
use Rattle.salvaging.specs.Far.{believed}
use Rattle.salvaging.specs.Treatments.{is_far_entry, is_good_treatment, is_late_entry, row_of, rows}
use Rattle.salvaging.specs.declared.rows.NumberRow.{NumberRow}
use Rattle.salvaging.specs.declared.treatment.Treatment.{Treatment}
use Rattle.salvaging.specs.steps.Lateness.{earliest, earliest_with, is_late_behind}
use Rattle.salvaging.specs.steps.Rows.{AreRowsBack, row_by}
use Rattle.salvaging.proofs.LateByEarliest.{late_by_earliest}
use Rattle.salvaging.proofs.LateSteps.{drop_last, earliest_one, one_less}

-- Of the entries behind these there are the rows, and this is the place of the earliest believed message of them.
pub record RowsSo (entries : List Entry) (treatments : List Treatment) (flags : List Bool) (rest : List Entry)
    (first : Option ℕ) (at : ℕ) (found : List NumberRow) : Type 0 where
  pub later : List Entry
  pub whole : entries ≡ rest ++ later
  pub at_is : at ≡ length rest
  pub within : at ≤ length treatments
  pub first_is : first ≡ earliest later (believed (map is_good_treatment (drop at treatments)) (drop at flags))
  pub rows_are : (far : Entry → Bool) → drop at flags ≡ map far later
      → AreRowsBack (rows far later (drop at treatments)) found

pub rows_start : (entries : List Entry) (treatments : List Treatment) (flags : List Bool) (found : List NumberRow)
    → length treatments ≡ length entries → found ≡ []
    → RowsSo entries treatments flags entries None (length treatments) found
rows_start entries treatments flags found long none = record {
  later = [];
  whole = nothing entries;
  at_is = long;
  within = omega arith;
  first_is = refl;
  rows_are = λ far is. none;
}
  where
    nothing : (es : List Entry) → es ≡ es ++ []
    nothing [] = refl
    nothing (e ∷ es) = ap (λ l. e ∷ l) (nothing es)

late_entry : (entry : Entry) (one : Bool) (later : List Entry) (flags : List Bool)
    → is_late_behind entry one (earliest later flags) ≡ is_late_entry entry one later flags
late_entry (Used number place payload) one later flags = ap (λ b. one && b) (sym (late_by_earliest place later flags))
late_entry (Doubtful number lower other) one later flags = refl

abbrev head_of : List Bool → Bool
head_of [] = false
head_of (flag ∷ flags) = flag

abbrev tail_of : List Bool → List Bool
tail_of [] = []
tail_of (flag ∷ flags) = flags

module _ (entries : List Entry) (treatments : List Treatment) (flags : List Bool)
    (long : length flags ≡ length treatments) (rest : List Entry) (first : Option ℕ) (at : ℕ) (found : List NumberRow)
    (r : RowsSo entries treatments flags rest first at found) (front : List Entry) (entry : Entry)
    (parted : rest ≡ front ++ entry ∷ []) where
  pub rows_before : (one d : Treatment) → one ≡ get_or treatments (at - 1) d → (flag other : Bool)
      → flag ≡ get_or flags (at - 1) other → (good : Bool) → good ≡ is_good_treatment one → (believes : Bool)
      → believes ≡ (good && not flag) → (late : Bool) → late ≡ is_late_behind entry believes first → (is_far : Bool)
      → is_far ≡ is_far_entry entry good flag → (row : NumberRow)
      → row_by row ≡ row_of (entry_number entry) one is_far late
      → (more : List NumberRow) → more ≡ found ++ row ∷ [] → (earlier : Option ℕ)
      → earlier ≡ earliest_with entry believes first
      → RowsSo entries treatments flags front earlier (at - 1) more
  rows_before one d is flag other flag_is good good_is believes believes_is late late_is is_far far_is row row_is more
      pushed earlier earlier_is =
      let here = one_less at rest front entry r.at_is parted in
      let back : suc (at - 1) ≡ at = omega (arith, here) in
      let few = r.within in
      let mark = drop_last treatments at one d (omega (arith, few, here)) is back in
      let mark_far = drop_last flags at flag other (omega (arith, few, here, long)) flag_is back in
      let es = r.later in
      let ts = drop at treatments in
      let gs = believed (map is_good_treatment ts) (drop at flags) in
      let own_is : believes ≡ (is_good_treatment one && not flag) = believes_is ∙ ap (λ b. b && not flag) good_is in
      let all : believed (map is_good_treatment (drop (at - 1) treatments)) (drop (at - 1) flags) ≡ believes ∷ gs =
      ap (λ l. believed (map is_good_treatment l) (drop (at - 1) flags)) mark
      ∙ ap (λ l. believed (map is_good_treatment (one ∷ ts)) l) mark_far ∙ ap (λ b. b ∷ gs) (sym own_is) in
      record {
        later = entry ∷ es;
        whole = r.whole ∙ ap (λ l. l ++ es) parted ∙ append_assoc front (entry ∷ []) es;
        at_is = omega (arith, here);
        within = omega (arith, few);
        first_is =
            earlier_is ∙ ap (earliest_with entry believes) r.first_is ∙ sym (earliest_one entry es believes gs)
            ∙ sym (ap (earliest (entry ∷ es)) all);
        rows_are = λ far far_all.
            let same = sym mark_far ∙ far_all in
            let head : flag ≡ far entry = ap head_of same in
            let tail : drop at flags ≡ map far es = ap tail_of same in
            let far_now : is_far ≡ is_far_entry entry (is_good_treatment one) (far entry) =
            far_is ∙ ap (λ b. is_far_entry entry b flag) good_is
            ∙ ap (is_far_entry entry (is_good_treatment one)) head in
            let late_now : late
            ≡ is_late_entry entry (is_good_treatment one && not (far entry)) es
            (believed (map is_good_treatment ts) (map far es)) =
            late_is ∙ ap (is_late_behind entry believes) r.first_is ∙ late_entry entry believes es gs
            ∙ ap (λ b. is_late_entry entry b es gs) (own_is ∙ ap (λ b. is_good_treatment one && not b) head)
            ∙ ap (λ l. is_late_entry entry (is_good_treatment one && not (far entry)) es
            (believed (map is_good_treatment ts) l)) tail in
            subst (λ l. AreRowsBack (rows far (entry ∷ es) l) more) (sym mark) (
              found,
              row,
              pushed,
              row_is ∙ ap (λ b. row_of (entry_number entry) one b late) far_now
                  ∙ ap (λ b. row_of (entry_number entry) one
                  (is_far_entry entry (is_good_treatment one) (far entry)) b) late_now,
              r.rows_are far tail,
            );
      }

-- All rows are there.
pub rows_end : (entries : List Entry) (treatments : List Treatment) (flags : List Bool) (rest : List Entry)
    (first : Option ℕ) (at : ℕ) (found : List NumberRow) → RowsSo entries treatments flags rest first at found
    → rest ≡ [] → (far : Entry → Bool) → flags ≡ map far entries → AreRowsBack (rows far entries treatments) found
rows_end entries treatments flags rest first at found r none far is =
    let zero_at : at ≡ 0 = r.at_is ∙ ap length none in
    let all : entries ≡ r.later = r.whole ∙ ap (λ l. l ++ r.later) none in
    subst (λ n. AreRowsBack (rows far entries (drop n treatments)) found) zero_at
    (subst (λ es. AreRowsBack (rows far es (drop at treatments)) found) (sym all)
    (r.rows_are far (ap (λ n. drop n flags) zero_at ∙ is ∙ ap (map far) all)))
