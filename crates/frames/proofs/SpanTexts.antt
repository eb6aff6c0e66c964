-- The lines of spans, one after the other.
use Rattle.std.proofs.Common.{◌≡◌, ◌++◌, ◌||◌, ◌∙◌, Bool, true, false, ℕ, List, [], ◌∷◌, Option, refl, sym, subst}
use Rattle.std.proofs.Common.{ap, append_assoc}
use Rattle.std.proofs.lemmas.List.Concat.{flat_map-append}
use Rattle.std.proofs.lemmas.List.Elements.{filter-append}
use Rattle.std.proofs.lemmas.List.Folds.{list_any-append}
use Rattle.std.specs.Io.KnownBytes.{Appends}
use Rattle.std.specs.List.{list_any}
use Rattle.std.proofs.KnownBytes.{Appends-nil, Appends-trans}
use Rattle.std.proofs.Math.Bool.{or_assoc}
use Rattle.output.specs.Begun.{AppendsBeginning}
use Rattle.output.proofs.Beginnings.{begun_between}
use Rattle.payload.specs.declared.mode.Mode.{Mode}
use Rattle.frames.specs.declared.span.Span.{Span}
use Rattle.message.specs.declared.range.HartRange.{HartRange}
use Rattle.frames.specs.Search.{chosen, is_chosen, is_damaged, span_line, spans_text}

-- The lines of some first spans were written, and the flag says whether one of these is damaged.
pub record HasWritten (symbols : Option (List ℕ)) (harts : HartRange) (mode : Mode) (all left : List Span)
    (damaged : Bool) (old new : Option (List ℕ)) : Type 0 where
  pub text : List ℕ
  pub parted : spans_text symbols mode (chosen harts all) ≡ text ++ spans_text symbols mode (chosen harts left)
  pub flag : list_any is_damaged (chosen harts all) ≡ (damaged || list_any is_damaged (chosen harts left))
  pub appended : Appends old new text

-- The lines of a span and of those behind it, and their flag.
text_joined : (symbols : Option (List ℕ)) (harts : HartRange) (mode : Mode) (span : Span) (left : List Span)
    → spans_text symbols mode (chosen harts (span ∷ left))
    ≡ spans_text symbols mode (chosen harts (span ∷ [])) ++ spans_text symbols mode (chosen harts left)
text_joined symbols harts mode span left =
    ap (spans_text symbols mode) (filter-append (is_chosen harts) (span ∷ []) left)
    ∙ flat_map-append (span_line symbols mode) (chosen harts (span ∷ [])) (chosen harts left)

flag_joined : (harts : HartRange) (span : Span) (left : List Span)
    → list_any is_damaged (chosen harts (span ∷ left))
    ≡ (list_any is_damaged (chosen harts (span ∷ [])) || list_any is_damaged (chosen harts left))
flag_joined harts span left =
    ap (list_any is_damaged) (filter-append (is_chosen harts) (span ∷ []) left)
    ∙ list_any-append is_damaged (chosen harts (span ∷ [])) (chosen harts left)

-- A span that is chosen.
pub one_chosen : (harts : HartRange) (span : Span) → is_chosen harts span ≡ true → chosen harts (span ∷ []) ≡ span ∷ []
one_chosen harts span is = rw is refl

-- None is written.
pub none_written : (symbols : Option (List ℕ)) (harts : HartRange) (mode : Mode) (all : List Span)
    (old : Option (List ℕ))
    → HasWritten symbols harts mode all all false old old
none_written symbols harts mode all old = record { text = []; parted = refl; flag = refl; appended = Appends-nil old }

-- One more is written.
pub one_written : (symbols : Option (List ℕ)) (harts : HartRange) (mode : Mode) (all left : List Span) (span : Span)
    (damaged : Bool)
    (old mid new : Option (List ℕ))
    → HasWritten symbols harts mode all (span ∷ left) damaged old mid
    → Appends mid new (spans_text symbols mode (chosen harts (span ∷ [])))
    → HasWritten symbols harts mode all left (damaged || list_any is_damaged (chosen harts (span ∷ []))) old new
one_written symbols harts mode all left span damaged old mid new so_far line =
    let own = spans_text symbols mode (chosen harts (span ∷ [])) in
    record {
      text = so_far.text ++ own;
      parted = so_far.parted ∙ ap (λ (l : List ℕ). so_far.text ++ l) (text_joined symbols harts mode span left)
          ∙ sym (append_assoc so_far.text own (spans_text symbols mode (chosen harts left)));
      flag = so_far.flag ∙ ap (λ b. damaged || b) (flag_joined harts span left)
          ∙ sym (or_assoc damaged (list_any is_damaged (chosen harts (span ∷ [])))
          (list_any is_damaged (chosen harts left)));
      appended = Appends-trans old mid new so_far.text own so_far.appended line;
    }

-- A beginning of the line of the next is written.
pub next_begun : (symbols : Option (List ℕ)) (harts : HartRange) (mode : Mode) (all left : List Span) (span : Span)
    (damaged : Bool)
    (old mid new : Option (List ℕ))
    → HasWritten symbols harts mode all (span ∷ left) damaged old mid
    → AppendsBeginning (spans_text symbols mode (chosen harts (span ∷ []))) mid new
    → AppendsBeginning (spans_text symbols mode (chosen harts all)) old new
next_begun symbols harts mode all left span damaged old mid new so_far begun =
    subst (λ (l : List ℕ). AppendsBeginning l old new)
    (sym (so_far.parted ∙ ap (λ (l : List ℕ). so_far.text ++ l) (text_joined symbols harts mode span left)))
    (begun_between so_far.text (spans_text symbols mode (chosen harts (span ∷ [])))
    (spans_text symbols mode (chosen harts left))
    old mid new so_far.appended begun)
