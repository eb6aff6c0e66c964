-- A hart has one end.
use Rattle.std.proofs.Common.{◌≡◌, ◌++◌, List, [], ◌∷◌, refl, sym, ap, subst, ◌∙◌, append_assoc}
use Rattle.std.proofs.lemmas.List.{append-nil}
use Rattle.rvclass.specs.Words.{Words}
use Rattle.payload.specs.declared.mode.Mode.{Mode}
use Rattle.salvaging.specs.Ends.{AreCutAtEnd, EndsAtLast, IsEnd, NoneEnds}
use Rattle.salvaging.specs.Entries.{Entry}

module _ (words : Words) (mode : Mode) where
  -- It does not end where none of the entries ends it.
  pub not_at : (front : List Entry) (last : Entry) (more later : List Entry)
      → NoneEnds words mode (front ++ last ∷ more) later → ¬ IsEnd words mode last (more ++ later)
  not_at [] last more later none = none.0
  not_at (entry ∷ front) last more later none = not_at front last more later none.1

  -- The lowest end is one.
  pub record IsOneEnd (front : List Entry) (last : Entry) (beyond others : List Entry) (other : Entry)
      (further : List Entry) : Type 0 where
    pub front_is : front ≡ others
    pub last_is : last ≡ other
    pub beyond_is : beyond ≡ further

  one_end : (front : List Entry) (last : Entry) (beyond others : List Entry) (other : Entry) (further : List Entry)
      → front ++ last ∷ beyond ≡ others ++ other ∷ further → IsEnd words mode last beyond
      → NoneEnds words mode front (last ∷ beyond) → IsEnd words mode other further
      → NoneEnds words mode others (other ∷ further) → IsOneEnd front last beyond others other further
  one_end [] last beyond [] other further is end lower too lower_too =
      record { front_is = refl; last_is = cc; beyond_is = cc }
  one_end [] last beyond (entry ∷ others) other further is end lower too lower_too =
      let first : last ≡ entry = cc in
      let rest : beyond ≡ others ++ other ∷ further = cc in
      absurd (lower_too.0 (subst (λ e. IsEnd words mode e (others ++ other ∷ further)) first
      (subst (IsEnd words mode last) rest end)))
  one_end (entry ∷ front) last beyond [] other further is end lower too lower_too =
      let first : other ≡ entry = cc in
      let rest : further ≡ front ++ last ∷ beyond = cc in
      absurd (lower.0 (subst (λ e. IsEnd words mode e (front ++ last ∷ beyond)) first
      (subst (IsEnd words mode other) rest too)))
  one_end (entry ∷ front) last beyond (first ∷ others) other further is end lower too lower_too =
      let same : entry ≡ first = cc in
      let rest : front ++ last ∷ beyond ≡ others ++ other ∷ further = cc in
      let one = one_end front last beyond others other further rest end lower.1 too lower_too.1 in
      record {
        front_is = ap (λ e. e ∷ front) same ∙ ap (λ l. first ∷ l) one.front_is;
        last_is = one.last_is;
        beyond_is = one.beyond_is;
      }

  module _ (entries upto others : List Entry) where
    -- No end, and one.
    none_or_one : (first : Entry) (beyond : List Entry) → entries ≡ upto ++ [] → NoneEnds words mode upto []
        → entries ≡ others ++ first ∷ beyond → EndsAtLast words mode others (first ∷ beyond) → ⊥
    none_or_one first beyond whole none too (front, last, is, end, lower) =
        let all : upto ≡ front ++ last ∷ first ∷ beyond =
        sym (append-nil upto) ∙ sym whole ∙ too ∙ ap (λ l. l ++ first ∷ beyond) is
        ∙ append_assoc front (last ∷ []) (first ∷ beyond) in
        not_at front last (first ∷ beyond) [] (subst (λ es. NoneEnds words mode es []) all none)
        (subst (IsEnd words mode last) (sym (append-nil (first ∷ beyond))) end)

  pub cut_once : (entries upto others beyond further : List Entry) → AreCutAtEnd words mode entries upto beyond
      → AreCutAtEnd words mode entries others further → (upto ≡ others) × (beyond ≡ further)
  cut_once entries upto others [] [] cut too =
      (sym (append-nil upto) ∙ sym cut.whole ∙ too.whole ∙ append-nil others, refl)
  cut_once entries upto others [] (first ∷ further) cut too =
      absurd (none_or_one entries upto others first further cut.whole cut.ends too.whole too.ends)
  cut_once entries upto others (first ∷ beyond) [] cut too =
      absurd (none_or_one entries others upto first beyond too.whole too.ends cut.whole cut.ends)
  cut_once entries upto others (first ∷ beyond) (again ∷ further) cut too =
      by_ends cut.ends too.ends
    where
      by_ends : EndsAtLast words mode upto (first ∷ beyond) → EndsAtLast words mode others (again ∷ further)
          → (upto ≡ others) × (first ∷ beyond ≡ again ∷ further)
      by_ends (front, last, is, end, lower) (before, other, is_too, end_too, lower_too) =
          let whole = sym (append_assoc front (last ∷ []) (first ∷ beyond)) ∙ sym (ap (λ l. l ++ first ∷ beyond) is)
          ∙ sym cut.whole ∙ too.whole ∙ ap (λ l. l ++ again ∷ further) is_too
          ∙ append_assoc before (other ∷ []) (again ∷ further) in
          let one = one_end front last (first ∷ beyond) before other (again ∷ further) whole end lower end_too lower_too
          in (
            is ∙ ap (λ l. l ++ last ∷ []) one.front_is ∙ ap (λ e. before ++ e ∷ []) one.last_is ∙ sym is_too,
            one.beyond_is,
          )
