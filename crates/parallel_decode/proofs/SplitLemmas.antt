-- Text on its way to a writer.
use Rattle.std.proofs.Common.{◌≡◌, ◌∙◌, ◌==◌, true, length, ℕ, List, [], ◌++◌, arith, Option, append_assoc, append-nil, ap, subst, sym}
use Rattle.std.proofs.KnownBytes.{Appends-nil, Appends-trans}
use Rattle.std.proofs.lemmas.Grind.{common_steps, flat_map-append}
use Rattle.std.proofs.lemmas.List.{nil_from_length}
use Rattle.std.specs.List.{flat_map}
use Rattle.output.specs.Begun.{AppendsBeginning}
use Rattle.output.proofs.Beginnings.{begun_behind, begun_in_front}
use Rattle.retire.specs.LogText.{event_line}
use Rattle.retire.specs.declared.event.Event.{Event}
use Rattle.retire.specs.Split.{Split}

-- Nothing is written yet.
pub split_none : (old : Option (List ℕ)) (held : List ℕ) → Split old old held (held ++ [])
split_none old held = ([], Appends-nil old, sym (append-nil held))

-- The rows of some events.
abbrev pub rows : List Event → List ℕ
rows events = flat_map event_line events

-- Rows went on behind rows.
pub split_more : (old mid new : Option (List ℕ)) (start held room : List ℕ) (front back : List Event)
    → Split old mid held (start ++ rows front) → Split mid new room (held ++ rows back)
    → Split old new room (start ++ rows (front ++ back))
split_more old mid new start held room front back (written, got, whole) (later, then, is) = (
  written ++ later,
  Appends-trans old mid new written later got then,
  append_assoc written later room ∙ ap (λ l. written ++ l) is ∙ sym (append_assoc written held (rows back))
      ∙ ap (λ l. l ++ rows back) whole ∙ append_assoc start (rows front) (rows back)
      ∙ ap (λ l. start ++ l) (sym (flat_map-append event_line front back)),
)

-- A beginning of rows, where more come behind them.
pub rows_in_front : (old new : Option (List ℕ)) (start : List ℕ) (front rest all : List Event) → all ≡ front ++ rest
    → AppendsBeginning (start ++ rows front) old new → AppendsBeginning (start ++ rows all) old new
rows_in_front old new start front rest all parts begun =
    let same : (start ++ rows front) ++ rows rest ≡ start ++ rows all =
    append_assoc start (rows front) (rows rest)
    ∙ ap (λ l. start ++ l) (sym (flat_map-append event_line front rest) ∙ ap rows (sym parts)) in
    subst (λ text. AppendsBeginning text old new) same
    (begun_in_front (start ++ rows front) (rows rest) old new begun)

-- A beginning of rows was written behind rows.
pub more_begun : (old mid new : Option (List ℕ)) (start held : List ℕ) (front back : List Event)
    → Split old mid held (start ++ rows front) → AppendsBeginning (held ++ rows back) mid new
    → AppendsBeginning (start ++ rows (front ++ back)) old new
more_begun old mid new start held front back (written, got, whole) begun =
    let same : written ++ (held ++ rows back) ≡ start ++ rows (front ++ back) =
    sym (append_assoc written held (rows back)) ∙ ap (λ l. l ++ rows back) whole
    ∙ append_assoc start (rows front) (rows back)
    ∙ ap (λ l. start ++ l) (sym (flat_map-append event_line front back)) in
    subst (λ text. AppendsBeginning text old new) same
    (begun_behind written (held ++ rows back) old mid new got begun)

-- Of rows that are held in part a beginning was written.
pub split_begun : (old new : Option (List ℕ)) (held all : List ℕ) → Split old new held all
    → AppendsBeginning all old new
split_begun old new held all (written, got, whole) =
    record { text = written; rest = held; parted = sym whole; appended = got }

-- The rows of the first of all events are written or held, and these are left.
pub record HandsOut (old new : Option (List ℕ)) (start room : List ℕ) (all left : List Event) : Type 0 where
  pub done : List Event
  pub parts : all ≡ done ++ left
  pub text : Split old new room (start ++ rows done)

module _ (old mid : Option (List ℕ)) (start held : List ℕ) (all piece left : List Event)
    (h : HandsOut old mid start held all (piece ++ left)) where
  -- The rows of a piece more.
  pub hands_more : (new : Option (List ℕ)) (room : List ℕ) → Split mid new room (held ++ rows piece)
      → HandsOut old new start room all left
  hands_more new room written = record {
    done = h.done ++ piece;
    parts = h.parts ∙ sym (append_assoc h.done piece left);
    text = split_more old mid new start held room h.done piece h.text written;
  }

  -- Or a beginning of them.
  pub hands_begun : (new : Option (List ℕ)) → AppendsBeginning (held ++ rows piece) mid new
      → AppendsBeginning (start ++ rows all) old new
  hands_begun new begun =
      rows_in_front old new start (h.done ++ piece) left all (h.parts ∙ sym (append_assoc h.done piece left))
      (more_begun old mid new start held h.done piece h.text begun)

-- At last none is left.
pub hands_all : (old new : Option (List ℕ)) (start room : List ℕ) (all left : List Event)
    → HandsOut old new start room all left → left ≡ [] → Split old new room (start ++ rows all)
hands_all old new start room all left h none =
    subst (λ l. Split old new room (start ++ rows l)) (sym (h.parts ∙ ap (λ l. h.done ++ l) none ∙ append-nil h.done))
    h.text

-- No event is left where none is counted.
pub none_left : (left : List Event) → (length left == 0) ≡ true → left ≡ []
none_left left is = nil_from_length left (grind (arith, common_steps))
