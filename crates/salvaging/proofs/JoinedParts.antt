-- Parts that are joined: their events, and their bad, doubtful and alone numbers.
use Rattle.std.proofs.Common.{◌≡◌, ℕ, zero, suc, ◌++◌, List, [], ◌∷◌, length}
use Rattle.std.proofs.Common.{refl, sym, ap, subst, ◌∙◌, append_assoc, arith}
use Rattle.std.proofs.lemmas.List.{append-nil}
use Rattle.retire.specs.declared.event.Event.{Event}
use Rattle.salvaging.specs.AlikeParts.{AreAlikeParts}
use Rattle.salvaging.specs.Entries.{Entry}
use Rattle.salvaging.specs.LeftParts.{LeftPart, Missing, Events, BadNumber, DoubtfulNumber, AloneNumber, gap, stretch}
use Rattle.salvaging.specs.Shares.{Share}
use Rattle.salvaging.specs.Shares.{Adds, Passes, Spoils, StandsAlone, Doubts}
use Rattle.salvaging.specs.TreatedParts.{added_in, events_in, mark_of, marks_in, marks_of}

-- Parts of which some are before others.
pub events_append : (xs ys : List LeftPart) → events_in (xs ++ ys) ≡ events_in xs ++ events_in ys
events_append [] ys = refl
events_append (Missing count ∷ xs) ys = events_append xs ys
events_append (Events first last events ∷ xs) ys =
    ap (λ l. events ++ l) (events_append xs ys) ∙ sym (append_assoc events (events_in xs) (events_in ys))
events_append (BadNumber number place why ∷ xs) ys = events_append xs ys
events_append (DoubtfulNumber number first second ∷ xs) ys = events_append xs ys
events_append (AloneNumber number place ∷ xs) ys = events_append xs ys

pub marks_append : (xs ys : List LeftPart) → marks_in (xs ++ ys) ≡ marks_in xs ++ marks_in ys
marks_append [] ys = refl
marks_append (Missing count ∷ xs) ys = marks_append xs ys
marks_append (Events first last events ∷ xs) ys = marks_append xs ys
marks_append (BadNumber number place why ∷ xs) ys = ap (λ l. BadNumber number place why ∷ l) (marks_append xs ys)
marks_append (DoubtfulNumber number first second ∷ xs) ys =
    ap (λ l. DoubtfulNumber number first second ∷ l) (marks_append xs ys)
marks_append (AloneNumber number place ∷ xs) ys = ap (λ l. AloneNumber number place ∷ l) (marks_append xs ys)

pub added_append : (xs ys : List Share) → added_in (xs ++ ys) ≡ added_in xs ++ added_in ys
added_append [] ys = refl
added_append (Adds events ∷ xs) ys =
    ap (λ l. events ++ l) (added_append xs ys) ∙ sym (append_assoc events (added_in xs) (added_in ys))
added_append (Passes ∷ xs) ys = added_append xs ys
added_append (Spoils why ∷ xs) ys = added_append xs ys
added_append (StandsAlone ∷ xs) ys = added_append xs ys
added_append (Doubts ∷ xs) ys = added_append xs ys

pub marks_of-append : (upto beyond : List Entry) (xs ys : List Share) → length xs ≡ length upto
    → marks_of (upto ++ beyond) (xs ++ ys) ≡ marks_of upto xs ++ marks_of beyond ys
marks_of-append [] beyond [] ys many = refl
marks_of-append [] beyond (x ∷ xs) ys many = absurd (omega (arith, many))
marks_of-append (entry ∷ upto) beyond [] ys many = absurd (omega (arith, many))
marks_of-append (entry ∷ upto) beyond (x ∷ xs) ys many =
    ap (λ l. mark_of entry x ++ l)
    (marks_of-append upto beyond xs ys (omega (arith, many)))
    ∙ sym (append_assoc (mark_of entry x) (marks_of upto xs) (marks_of beyond ys))

-- A stretch and a gap.
pub events_stretch : (next count : ℕ) (events : List Event) → events_in (stretch next count events) ≡ events
events_stretch next count [] = refl
events_stretch next count (event ∷ events) = append-nil (event ∷ events)

pub marks_stretch : (next count : ℕ) (events : List Event) → marks_in (stretch next count events) ≡ []
marks_stretch next count [] = refl
marks_stretch next count (event ∷ events) = refl

pub events_gap : (missing : ℕ) → events_in (gap missing) ≡ []
events_gap zero = refl
events_gap (suc missing) = refl

pub marks_gap : (missing : ℕ) → marks_in (gap missing) ≡ []
marks_gap zero = refl
marks_gap (suc missing) = refl

-- Parts, where these events come before those that the entries add.
pub record Agree (before : List Event) (entries : List Entry) (shares : List Share) (parts : List LeftPart)
    : Type 0 where
  pub events : events_in parts ≡ before ++ added_in shares
  pub marks : AreAlikeParts (marks_in parts) (marks_of entries shares)

pub agree_front : (before : List Event) (entries : List Entry) (shares : List Share) (front rest whole : List LeftPart)
    → whole ≡ front ++ rest → events_in front ≡ before → marks_in front ≡ [] → Agree [] entries shares rest
    → Agree before entries shares whole
agree_front before entries shares front rest whole is events_are none agree = record {
  events = ap events_in is ∙ events_append front rest ∙ ap (λ l. l ++ events_in rest) events_are
      ∙ ap (λ l. before ++ l) agree.events;
  marks = subst (λ l. AreAlikeParts l (marks_of entries shares))
      (sym (ap marks_in is ∙ marks_append front rest ∙ ap (λ l. l ++ marks_in rest) none)) agree.marks;
}
