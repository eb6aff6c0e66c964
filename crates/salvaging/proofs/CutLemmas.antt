-- The entries of a hart up to its end, and those beyond.
use Rattle.std.proofs.Common.{◌≡◌, ◌<◌, ℕ, ◌+◌, ◌++◌, List, [], ◌∷◌, map, sym, ap, ◌∙◌}
use Rattle.std.proofs.lemmas.List.{append-nil}
use Rattle.std.proofs.lemmas.List.Elements.{All-cons, All-head, All-nil, All-tail}
use Rattle.rvclass.specs.Words.{Words}
use Rattle.payload.specs.declared.mode.Mode.{Mode}
use Rattle.message.specs.Harts.{end_of_numbers}
use Rattle.losses.specs.Apart.{AreRising}
use Rattle.salvaging.specs.Ends.{AreCutAtEnd, EndsAtLast}
use Rattle.salvaging.specs.Entries.{Entry, entry_number}
use Rattle.salvaging.specs.Leaving.{own_mode}
use Rattle.salvaging.specs.steps.Grouping.{AreSmall}
use Rattle.salvaging.proofs.EntriesTaken.{own_mode-more}

pub rising_front : (from : ℕ) (front later : List Entry) → AreRising from (map entry_number (front ++ later))
    → AreRising from (map entry_number front)
rising_front from [] later rising = tt
rising_front from (entry ∷ front) later (low, rising) =
    (low, rising_front (entry_number entry + 1) front later rising)

abbrev IsSmall : Entry → Type 0
IsSmall entry = entry_number entry < end_of_numbers

pub small_front : (front later : List Entry) → AreSmall (front ++ later) → AreSmall front
small_front [] later small = All-nil IsSmall
small_front (entry ∷ front) later small =
    All-cons IsSmall entry front (All-head IsSmall entry (front ++ later) small)
    (small_front front later (All-tail IsSmall entry (front ++ later) small))

-- Those up to the end decide the mode.
pub mode_of_front : (words : Words) (reads mode : Mode) (entries upto beyond : List Entry)
    → AreCutAtEnd words reads entries upto beyond → own_mode mode upto ≡ own_mode mode entries
mode_of_front words reads mode entries upto beyond cut = by_beyond beyond cut.whole cut.ends
  where
    by_front : (front : List Entry) (last : Entry) (later : List Entry)
        → own_mode mode (front ++ last ∷ []) ≡ own_mode mode ((front ++ last ∷ []) ++ later)
    by_front [] last later = sym (own_mode-more mode last later)
    by_front (entry ∷ front) last later =
        own_mode-more mode entry (front ++ last ∷ []) ∙ sym (own_mode-more mode entry ((front ++ last ∷ []) ++ later))

    by_beyond : (beyond : List Entry) → entries ≡ upto ++ beyond → EndsAtLast words reads upto beyond
        → own_mode mode upto ≡ own_mode mode entries
    by_beyond [] whole ends = ap (own_mode mode) (sym (whole ∙ append-nil upto))
    by_beyond (first ∷ beyond) whole (front, last, is, end, lower) =
        ap (own_mode mode) is ∙ by_front front last (first ∷ beyond)
        ∙ ap (λ l. own_mode mode (l ++ first ∷ beyond)) (sym is) ∙ ap (own_mode mode) (sym whole)
