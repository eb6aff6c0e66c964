-- Where all spans are shown.
use Rattle.std.proofs.Common.{◌≡◌, ◌++◌, ◌+◌, ◌≤◌, ℕ, Bool, true, false, List, [], ◌∷◌, Option}
use Rattle.std.proofs.Common.{ap, arith, drop, filter, length, refl}
use Rattle.std.specs.Prelude.{if◌then◌else◌}
use Rattle.frames.specs.declared.span.Span.{Span}
use Rattle.listing.specs.declared.form.Form.{Form}
use Rattle.payload.specs.declared.mode.Mode.{Mode}
use Rattle.salvage_reports.specs.declared.hart_rows.TreatedInRows.{TreatedInRows}
use Rattle.salvage_reports.specs.TreatedText.{after_span, place_after, span_text, spans_text}

-- No filter makes more.
filter_short : (shows : Span → Bool) (spans : List Span) → length (filter shows spans) ≤ length spans
filter_short shows [] = omega arith
filter_short shows (span ∷ spans) = by (shows span) (filter_short shows spans)
  where
    by : (b : Bool) → length (filter shows spans) ≤ length spans
        → length (if b then span ∷ filter shows spans else filter shows spans) ≤ length (span ∷ spans)
    by true few = omega (arith, few)
    by false few = omega (arith, few)

module _ (form : Form) (shows : Span → Bool) (symbols : Option (List ℕ)) (mode : Mode) where
  -- The texts of those that are shown, and those of all.
  abbrev some_text : ℕ → List Span → List TreatedInRows → List ℕ
  some_text at spans treated = spans_text form shows symbols mode at spans treated

  abbrev all_text : ℕ → List Span → List TreatedInRows → List ℕ
  all_text at spans treated = spans_text form (λ span. true) symbols mode at spans treated

  -- They are the same where a filter leaves all.
  pub left_texts : (at : ℕ) (spans : List Span) (treated : List TreatedInRows) → filter shows spans ≡ spans
      → some_text at spans treated ≡ all_text at spans treated
  left_texts at [] treated all = refl
  left_texts at (span ∷ spans) treated all =
      by (shows span) all (left_texts (place_after at span treated) spans (after_span span treated))
    where
      by : (b : Bool) → (if b then span ∷ filter shows spans else filter shows spans) ≡ span ∷ spans
          → (filter shows spans ≡ spans → some_text (place_after at span treated) spans (after_span span treated)
          ≡ all_text (place_after at span treated) spans (after_span span treated))
          → (if b then span_text form symbols mode at span treated
          ++ some_text (place_after at span treated) spans (after_span span treated)
          else some_text (at + 1) spans treated)
          ≡ span_text form symbols mode at span treated
          ++ all_text (place_after at span treated) spans (after_span span treated)
      by true is more =
          ap (λ l. span_text form symbols mode at span treated ++ l) (more (ap (λ (l : List Span). drop 1 l) is))
      by false is more =
          let few = filter_short shows spans in
          let size = ap length is in
          absurd (omega (arith, few, size))
