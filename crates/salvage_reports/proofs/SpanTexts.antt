-- The lines or the rows of spans that are shown, one after the other.
use Rattle.std.proofs.Common.{◌≡◌, ◌++◌, ◌+◌, ◌∙◌, ℕ, Bool, true, List, [], ◌∷◌, Option, ap, arith, drop, refl, sym}
use Rattle.std.proofs.Common.{append_assoc, subst}
use Rattle.std.specs.Io.KnownBytes.{Appends}
use Rattle.std.specs.Prelude.{if◌then◌else◌}
use Rattle.std.proofs.KnownBytes.{Appends-nil, Appends-trans}
use Rattle.output.specs.Begun.{AppendsBeginning}
use Rattle.output.proofs.Beginnings.{begun_between}
use Rattle.listing.specs.declared.form.Form.{Form}
use Rattle.payload.specs.declared.mode.Mode.{Mode}
use Rattle.frames.specs.declared.span.Span.{Span}
use Rattle.frames.specs.declared.span.Span.TheVariants.{Frame, Bytes}
use Rattle.salvage_reports.specs.declared.hart_rows.TreatedInRows.{TreatedInRows}
use Rattle.salvage_reports.specs.TreatedText.{after_span, place_after, span_text, spans_text}

-- The messages that were passed over stand before those that are shown.
after_passed : (place passed : ℕ) (span : Span) (treated : List TreatedInRows)
    → place_after (place + passed) span treated ≡ place_after place span treated + passed
after_passed place passed (Bytes offset count) treated = refl
after_passed place passed (Frame offset message) [] = refl
after_passed place passed (Frame offset message) (one ∷ treated) = omega arith

module _ (form : Form) (shows : Span → Bool) (symbols : Option (List ℕ)) (mode : Mode) (treated : List TreatedInRows) where
  abbrev texts_from : ℕ → List Span → List TreatedInRows → List ℕ
  texts_from at spans others = spans_text form shows symbols mode at spans others

  -- The texts of some first spans were written. The treatments of the others are those from this place on, and so many
  -- messages were passed over.
  pub record HasWritten (all left : List Span) (place passed : ℕ) (old new : Option (List ℕ)) : Type 0 where
    pub text : List ℕ
    pub parted : texts_from 0 all treated ≡ text ++ texts_from (place + passed) left (drop place treated)
    pub appended : Appends old new text

  -- None is written yet.
  pub none_written : (all : List Span) (old : Option (List ℕ)) → HasWritten all all 0 0 old old
  none_written all old = record { text = []; parted = refl; appended = Appends-nil old }

  module _ (all left : List Span) (span : Span) (place passed : ℕ) (old mid : Option (List ℕ))
      (so_far : HasWritten all (span ∷ left) place passed old mid) where
    abbrev own : List ℕ
    own = span_text form symbols mode (place + passed) span (drop place treated)

    abbrev after : ℕ
    after = place_after (place + passed) span (drop place treated)

    abbrev others : List TreatedInRows
    others = after_span span (drop place treated)

    module _ (is : shows span ≡ true) where
      -- A span that is shown has its text.
      shown : texts_from 0 all treated ≡ so_far.text ++ (own ++ texts_from after left others)
      shown =
          so_far.parted ∙ ap (λ (b : Bool). so_far.text ++ (if b then own ++ texts_from after left others
          else texts_from (place + passed + 1) left (drop place treated))) is

      -- One more is written.
      pub one_written : (next : ℕ) (new : Option (List ℕ)) → next ≡ place_after place span (drop place treated)
          → drop next treated ≡ others → Appends mid new own → HasWritten all left next passed old new
      one_written next new is_next is_left written =
          let at : after ≡ next + passed =
          after_passed place passed span (drop place treated) ∙ ap (λ n. n + passed) (sym is_next) in
          record {
            text = so_far.text ++ own;
            parted = shown ∙ sym (append_assoc so_far.text own (texts_from after left others))
                ∙ ap (λ n. (so_far.text ++ own) ++ texts_from n left others) at
                ∙ ap (λ l. (so_far.text ++ own) ++ texts_from (next + passed) left l) (sym is_left);
            appended = Appends-trans old mid new so_far.text own so_far.appended written;
          }

      -- A beginning of the text of the next is written.
      pub next_begun : (new : Option (List ℕ)) → AppendsBeginning own mid new
          → AppendsBeginning (texts_from 0 all treated) old new
      next_begun new begun =
          subst (λ (l : List ℕ). AppendsBeginning l old new) (sym shown)
          (begun_between so_far.text own (texts_from after left others) old mid new so_far.appended begun)
