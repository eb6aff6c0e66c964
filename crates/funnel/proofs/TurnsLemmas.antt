-- A text that is read from the middle of a word on gives the turns of its words.
use Rattle.std.proofs.Common.{◌≡◌, ◌∙◌, ℕ, List, [], ◌∷◌, ◌++◌, Result, Ok, Err, refl, sym, ap, inl, inr, append_assoc}
use Rattle.std.proofs.Common.{append-nil}
use Rattle.std.specs.List.{filter, onto_first, slice_split}
use Rattle.std.proofs.lemmas.Bool.{cases_Bool}
use Rattle.std.proofs.lemmas.List.Sums.{fold-append}
use Rattle.funnel.specs.declared.turn.Turn.{Turn}
use Rattle.funnel.specs.Schedule.{is_blank, is_word, schedule_of, turns_from}
use Rattle.funnel.specs.declared.schedule_fault.ScheduleFault.{ScheduleFault}
use Rattle.funnel.specs.declared.word.Word.TheVariants as word
use Rattle.funnel.specs.steps.Words.{number_past, past, turn_at, turns_behind, turns_then, with_byte}
use Rattle.funnel.proofs.WordLemmas.{past-read, read}

-- The bytes of a word before the first part.
abbrev attach : List ℕ → List (List ℕ) → List (List ℕ)
attach begun [] = begun ∷ []
attach begun (part ∷ parts) = (begun ++ part) ∷ parts

attach-onto : (begun : List ℕ) (byte : ℕ) (parts : List (List ℕ))
    → attach begun (onto_first byte parts) ≡ attach (begun ++ byte ∷ []) parts
attach-onto begun byte [] = refl
attach-onto begun byte (part ∷ parts) = ap (λ first. first ∷ parts) (sym (append_assoc begun (byte ∷ []) part))

attach-nil-onto : (byte : ℕ) (parts : List (List ℕ)) → attach [] (onto_first byte parts) ≡ onto_first byte parts
attach-nil-onto byte [] = refl
attach-nil-onto byte (part ∷ parts) = refl

attach-nil : (text : List ℕ) → attach [] (slice_split is_blank text) ≡ slice_split is_blank text
attach-nil [] = refl
attach-nil (byte ∷ text) = elim (cases_Bool (is_blank byte)) [
  | inl blank ↦ rw blank refl
  | inr other ↦ rw other (attach-nil-onto byte (slice_split is_blank text))
]

-- The turns of words of which this one is the first, empty or not.
first_word : (harts number : ℕ) (begun : List ℕ) (parts : List (List ℕ))
    → past (turn_at number (read harts begun))
    (turns_from harts (number_past (turn_at number (read harts begun)) number) (filter is_word parts))
    ≡ turns_from harts number (filter is_word (begun ∷ parts))
first_word harts number [] parts = refl
first_word harts number (byte ∷ bytes) parts =
    past-read harts number byte bytes (λ n. turns_from harts n (filter is_word parts))

pub turns_behind-words : (harts number : ℕ) (begun text : List ℕ)
    → turns_behind harts number (read harts begun) text
    ≡ turns_from harts number (filter is_word (attach begun (slice_split is_blank text)))
turns_behind-words harts number begun [] =
    first_word harts number begun []
    ∙ ap (λ w. turns_from harts number (filter is_word (w ∷ []))) (sym (append-nil begun))
turns_behind-words harts number begun (byte ∷ text) = elim (cases_Bool (is_blank byte)) [
  | inl blank ↦
      let found = turn_at number (read harts begun) in
      let rest = turns_behind-words harts (number_past found number) [] text
      ∙ ap (λ parts. turns_from harts (number_past found number) (filter is_word parts)) (attach-nil text) in
      rw blank (ap (past found) rest ∙ first_word harts number begun (slice_split is_blank text)
      ∙ ap (λ w. turns_from harts number (filter is_word (w ∷ slice_split is_blank text))) (sym (append-nil begun)))
  | inr other ↦
      let longer : with_byte harts byte (read harts begun) ≡ read harts (begun ++ byte ∷ []) =
      sym (fold-append (λ so byte. with_byte harts byte so) word.Empty begun (byte ∷ [])) in
      rw other (ap (λ so. turns_behind harts number so text) longer
      ∙ turns_behind-words harts number (begun ++ byte ∷ []) text
      ∙ ap (λ parts. turns_from harts number (filter is_word parts))
      (sym (attach-onto begun byte (slice_split is_blank text))))
]

turns_then-none : (rest : Result (List Turn) ScheduleFault) → turns_then [] rest ≡ rest
turns_then-none (Ok turns) = refl
turns_then-none (Err why) = refl

-- Before the first byte the whole text is left to read.
pub schedule_of-behind : (harts : ℕ) (text : List ℕ)
    → schedule_of harts text ≡ turns_then [] (turns_behind harts 1 word.Empty text)
schedule_of-behind harts text =
    sym (turns_then-none (turns_behind harts 1 word.Empty text) ∙ turns_behind-words harts 1 [] text
    ∙ ap (λ parts. turns_from harts 1 (filter is_word parts)) (attach-nil text))
