-- The text of stretches: one stretch more, and the first one apart from the rest.
use Rattle.std.proofs.Common.{◌≡◌, ◌∙◌, ℕ, zero, suc, List, [], ◌∷◌, ◌++◌, Some, ap, append_assoc, append-nil}
use Rattle.std.proofs.Common.{refl, slice_get, subst, sym}
use Rattle.std.specs.declared.vec.Vec.{Vec}
use Rattle.retire.specs.declared.event.Event.{Event}
use Rattle.rvclass.specs.Words.{Words}
use Rattle.parallel_decode.specs.declared.stretch.Stretch.{Stretch}
use Rattle.parallel_decode.specs.steps.Stretches.{HaveText, IsStretch, stretch_text}

module _ {A : Type 0} (words : Words) (bytes : List ℕ) (places : List (Vec ℕ A)) where
  -- One stretch more adds its text.
  pub text_push : (stretches : List Stretch) (text : List ℕ) (stretch : Stretch) (part : List Event)
      → HaveText words bytes places stretches text → IsStretch words bytes places stretch part
      → HaveText words bytes places (stretches ++ stretch ∷ []) (text ++ stretch_text stretch part)
  text_push [] text stretch part none is =
      (part, [], is, refl, ap (λ l. l ++ stretch_text stretch part) none ∙ sym (append-nil (stretch_text stretch part)))
  text_push (first ∷ stretches) text stretch part (own, rest, its, have, parted) is = (
    own,
    rest ++ stretch_text stretch part,
    its,
    text_push stretches rest stretch part have is,
    ap (λ l. l ++ stretch_text stretch part) parted
        ∙ append_assoc (stretch_text first own) rest (stretch_text stretch part),
  )

  -- The text of a stretch comes before that of those after it.
  pub record First (stretch : Stretch) (stretches : List Stretch) (text : List ℕ) : Type 0 where
    pub part : List Event
    pub rest : List ℕ
    pub is : IsStretch words bytes places stretch part
    pub later : HaveText words bytes places stretches rest
    pub parted : text ≡ stretch_text stretch part ++ rest

  pub text_first : (stretch : Stretch) (stretches : List Stretch) (text : List ℕ)
      → HaveText words bytes places (stretch ∷ stretches) text → First stretch stretches text
  text_first stretch stretches text (part, rest, is, later, parted) =
      record { part = part; rest = rest; is = is; later = later; parted = parted }

  -- Each stretch has a part of a log.
  pub part_at : (stretches : List Stretch) (text : List ℕ) (place : ℕ) (stretch : Stretch)
      → HaveText words bytes places stretches text → slice_get stretches place ≡ Some stretch
      → (part : List Event) × IsStretch words bytes places stretch part
  part_at [] text place stretch have is = absurd cc
  part_at (first ∷ stretches) text zero stretch (part, rest, its, have, parted) is =
      (part, subst (λ s. IsStretch words bytes places s part) (same is) its)
    where
      same : Some first ≡ Some stretch → first ≡ stretch
      same is = cc
  part_at (first ∷ stretches) text (suc place) stretch (part, rest, its, have, parted) is =
      part_at stretches rest place stretch have is
