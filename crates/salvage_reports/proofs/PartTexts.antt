-- The texts of a hart's parts, one part more at a time.
use Rattle.std.proofs.Common.{◌≡◌, ℕ, ◌+◌, ◌<◌, ◌≤◌, sym, ap, ◌∙◌, subst, append_assoc, List, [], ◌∷◌, ◌++◌, Option, drop, refl}
use Rattle.std.proofs.Common.{append-nil, length, get_or}
use Rattle.std.proofs.KnownBytes.{Appends-nil, Appends-trans}
use Rattle.std.proofs.lemmas.List.{drop_all, drop_more}
use Rattle.std.specs.Io.KnownBytes.{Appends}
use Rattle.std.specs.declared.alloc.Global.{Global}
use Rattle.output.specs.Begun.{AppendsBeginning}
use Rattle.output.proofs.Beginnings.{begun_between}
use Rattle.salvaging.specs.LeftParts.{LeftPart}
use Rattle.salvaging.specs.PartsIn.{part_of, parts_in}
use Rattle.salvaging.specs.declared.far_number.FarNumber.{FarNumber}
use Rattle.salvaging.specs.declared.part.Part.{Part}
use Rattle.salvage_reports.specs.Layouts.{part_text, texts_from}
use Rattle.salvage_reports.specs.ShownParts.{gone_after, none_gone}
use Rattle.salvage_reports.specs.declared.found_writing.Layout.{Layout}
use Rattle.salvage_reports.specs.declared.shown_parts.Gone.{Gone}

module _ (layout : Layout) (symbols : Option (List ℕ)) (hart : ℕ) (offsets gaps : List ℕ) (far : List FarNumber) where
  abbrev texts : Gone → List LeftPart → List ℕ
  texts gone parts = texts_from layout symbols hart offsets gaps far gone parts

  abbrev text_of : Gone → LeftPart → List ℕ
  text_of gone part = part_text layout symbols hart offsets gaps far gone part

  -- The texts of some first parts were written, and so many gaps and far numbers were before the others.
  pub record HasWritten (all left : List LeftPart) (gone : Gone) (old new : Option (List ℕ)) : Type 0 where
    pub text : List ℕ
    pub parted : texts none_gone all ≡ text ++ texts gone left
    pub appended : Appends old new text

  -- None is written yet.
  pub none_written : (all : List LeftPart) (old : Option (List ℕ)) → HasWritten all all none_gone old old
  none_written all old = record { text = []; parted = refl; appended = Appends-nil old }

  module _ (all left : List LeftPart) (part : LeftPart) (gone : Gone) (old mid : Option (List ℕ))
      (so_far : HasWritten all (part ∷ left) gone old mid) where
    -- One more is written.
    pub one_written : (next : Gone) (new : Option (List ℕ)) → next ≡ gone_after gaps far gone part
        → Appends mid new (text_of gone part) → HasWritten all left next old new
    one_written next new is written = record {
      text = so_far.text ++ text_of gone part;
      parted = so_far.parted
          ∙ sym (append_assoc so_far.text (text_of gone part) (texts (gone_after gaps far gone part) left))
          ∙ ap (λ (g : Gone). (so_far.text ++ text_of gone part) ++ texts g left) (sym is);
      appended = Appends-trans old mid new so_far.text (text_of gone part) so_far.appended written;
    }

    -- A beginning of the text of the next is written.
    pub next_begun : (new : Option (List ℕ)) → AppendsBeginning (text_of gone part) mid new
        → AppendsBeginning (texts none_gone all) old new
    next_begun new begun =
        subst (λ (l : List ℕ). AppendsBeginning l old new) (sym so_far.parted)
        (begun_between so_far.text (text_of gone part) (texts (gone_after gaps far gone part) left) old mid new
        so_far.appended begun)

  -- At the end all texts are written.
  pub all_written : (parts : List (Part Global)) (i : ℕ) (gone : Gone) (old new : Option (List ℕ)) → length parts ≤ i
      → HasWritten (parts_in parts) (parts_in (drop i parts)) gone old new → Appends old new (texts none_gone (parts_in parts))
  all_written parts i gone old new over written =
      subst (Appends old new) (sym (written.parted
      ∙ ap (λ l. written.text ++ texts gone (parts_in l)) (drop_all i parts over) ∙ append-nil written.text))
      written.appended

-- The part at a place is the first of those from it on.
pub part_first : (parts : List (Part Global)) (i : ℕ) (part : Part Global) → i < length parts → part ≡ get_or parts i part
    → parts_in (drop i parts) ≡ part_of part ∷ parts_in (drop (i + 1) parts)
part_first parts i part within is =
    ap parts_in (drop_more parts i part within ∙ ap (λ p. p ∷ drop (i + 1) parts) (sym is))
