-- Which messages are taken, by what is held of them.
use Rattle.std.proofs.Common.{◌≡◌, ◌≤◌, ◌+◌, ◌&&◌, ◌||◌, ◌++◌, ◌∙◌, ℕ, Bool, true, false}
use Rattle.std.proofs.Common.{List, [], ◌∷◌, Some, drop, length, refl, sym, ap, ap₂, arith}
use Rattle.std.proofs.lemmas.Bool.{and_left}
use Rattle.std.proofs.lemmas.List.{drop-append-le}
use Rattle.frames.proofs.FrameLemmas.{complete}
use Rattle.frames.specs.Frame.{frame_in, is_complete, message_in, message_size}
use Rattle.frames.specs.GuidedTaken.{after, ends_or_begins, goes_on, is_counted, is_counted_at, is_same, is_sent_at}
use Rattle.live.specs.Received.{Rule, are_next, begins_row, is_kept, is_taken, is_taken_anywhere, sight_of, sights}
use Rattle.live.specs.declared.received_seen.Seen.{Seen}
use Rattle.live.specs.declared.received_seen.Seen.TheVariants as seen
use Rattle.live.specs.steps.Receiving.{seen_first}
use Rattle.live.proofs.ReceivedBytes.{complete_more, frame_more, framed, its, size_more}
use Rattle.live.proofs.ReceivedRows.{row_none}

-- What is seen of the message that is held, whatever follows it.
seen_held : (rule : Rule) (xs more : List ℕ) → is_complete xs ≡ true
    → rule.sees (frame_in (xs ++ more)) ≡ seen_first rule.sees (message_in xs)
seen_held rule xs more is =
    ap rule.sees (frame_more xs more is) ∙ ap (seen_first rule.sees) (sym (framed xs is))

-- Whether it was sent, and whether it is counted.
sent_held : (rule : Rule) (xs more : List ℕ) → is_complete xs ≡ true
    → is_sent_at (sights rule) (xs ++ more) ≡ is_same (sight_of (seen_first rule.sees (message_in xs)))
sent_held rule xs more is =
    ap₂ (λ (b : Bool) (s : Seen). b && is_same (sight_of s)) (complete_more xs more is) (seen_held rule xs more is)

counted_held : (rule : Rule) (xs more : List ℕ) → is_complete xs ≡ true
    → is_counted_at (sights rule) (xs ++ more) ≡ is_counted (sight_of (seen_first rule.sees (message_in xs)))
counted_held rule xs more is =
    ap₂ (λ (b : Bool) (s : Seen). b && is_counted (sight_of s)) (complete_more xs more is) (seen_held rule xs more is)

-- What is taken anywhere, by what is seen of the message that is held.
pub anywhere_held : (rule : Rule) (xs more : List ℕ) (found : Seen) → is_complete xs ≡ true
    → found ≡ seen_first rule.sees (message_in xs)
    → is_taken_anywhere rule (xs ++ more) ≡ (is_same (sight_of found) || begins_row rule (xs ++ more))
anywhere_held rule xs more found is seen =
    ap (λ b. b || begins_row rule (xs ++ more))
    (sent_held rule xs more is ∙ ap (λ s. is_same (sight_of s)) (sym seen))

-- Where no message begins, none is taken.
pub anywhere_none : (rule : Rule) (xs : List ℕ) → is_complete xs ≡ false → is_taken_anywhere rule xs ≡ false
anywhere_none rule xs none =
    ap₂ (λ (b c : Bool). b || c) (and_left (is_complete xs) _ none) (row_none rule [] xs (rule.harts + 1) none)

-- What follows a message that is held.
pub after_held : (xs more : List ℕ) (size : ℕ) → Some size ≡ message_size xs → after (xs ++ more) ≡ drop size xs ++ more
after_held xs more size begins =
    let own = its xs size begins in
    let c = complete xs own.0 in
    let fits = c.fits in
    let same = own.1 in
    ap (λ n. drop n (xs ++ more)) (size_more xs more own.0 ∙ sym same)
    ∙ drop-append-le size xs more (omega (arith, fits, same))

goes : (xs more : List ℕ) (size : ℕ) → Some size ≡ message_size xs
    → goes_on (xs ++ more) ≡ ends_or_begins (drop size xs ++ more)
goes [] more size begins =
    let c = complete [] (its [] size begins).0 in let fits = c.fits in absurd (omega (arith, fits))
goes (b ∷ bytes) more size begins =
    ap₂ (λ (c d : Bool). c && d) (complete_more (b ∷ bytes) more (its (b ∷ bytes) size begins).0)
    (ap ends_or_begins (after_held (b ∷ bytes) more size begins))

-- How RECEIVED goes on after a message, by the next one, which is held.
pub next_held : (rule : Rule) (xs more : List ℕ) (size : ℕ) (found : Seen) → Some size ≡ message_size xs
    → found ≡ seen_first rule.sees (message_in xs)
    → are_next rule (xs ++ more) ≡ (ends_or_begins (drop size xs ++ more) || is_counted (sight_of found))
next_held rule xs more size found begins seen =
    ap₂ (λ (b c : Bool). b || c) (goes xs more size begins)
    (counted_held rule xs more (its xs size begins).0 ∙ ap (λ s. is_counted (sight_of s)) (sym seen))

pub ends_begun : (xs : List ℕ) → is_complete xs ≡ true → ends_or_begins xs ≡ true
ends_begun [] is = refl
ends_begun (b ∷ bytes) is = is

pub next_none : (rule : Rule) (xs : List ℕ) → 1 ≤ length xs → is_complete xs ≡ false → are_next rule xs ≡ false
next_none rule [] some none = absurd (omega (arith, some))
next_none rule (b ∷ bytes) some none =
    ap₂ (λ (c d : Bool). c || d) (and_left (is_complete (b ∷ bytes)) _ none) (and_left (is_complete (b ∷ bytes)) _ none)

-- A message that is held is kept by what follows it.
pub kept_held : (rule : Rule) (xs more : List ℕ) (size : ℕ) → Some size ≡ message_size xs
    → is_kept rule (xs ++ more) ≡ are_next rule (drop size xs ++ more)
kept_held rule xs more size begins =
    ap₂ (λ (c : Bool) (l : List ℕ). c && are_next rule l) (complete_more xs more (its xs size begins).0)
    (after_held xs more size begins)

pub kept_none : (rule : Rule) (xs : List ℕ) → is_complete xs ≡ false → is_kept rule xs ≡ false
kept_none rule xs none = and_left (is_complete xs) _ none

-- What is taken anywhere is taken, and inside a run nothing else is.
pub taken_anywhere : (rule : Rule) (astray : Bool) (xs : List ℕ) → is_taken_anywhere rule xs ≡ true
    → is_taken rule astray xs ≡ true
taken_anywhere rule true xs is = is
taken_anywhere rule false xs is = ap (λ b. b || is_kept rule xs) is

pub taken_astray : (rule : Rule) (astray : Bool) (xs : List ℕ) → astray ≡ true
    → is_taken rule astray xs ≡ is_taken_anywhere rule xs
taken_astray rule true xs is = refl
taken_astray rule false xs is = cc

pub taken_kept : (rule : Rule) (astray : Bool) (xs : List ℕ) → astray ≡ false → is_taken_anywhere rule xs ≡ false
    → is_taken rule astray xs ≡ is_kept rule xs
taken_kept rule false xs here none = ap (λ b. b || is_kept rule xs) none
taken_kept rule true xs here none = cc

-- The next message is in view, or not.
pub next_in_view : (rule : Rule) (xs more : List ℕ) (size : ℕ) (found : Seen) → Some size ≡ message_size xs
    → found ≡ seen_first rule.sees (message_in xs) → is_counted (sight_of found) ≡ true → are_next rule (xs ++ more) ≡ true
next_in_view rule xs more size found begins seen is =
    next_held rule xs more size found begins seen ∙ by (ends_or_begins (drop size xs ++ more)) (is_counted (sight_of found)) is
  where
    by : (goes counted : Bool) → counted ≡ true → (goes || counted) ≡ true
    by true counted e = refl
    by false counted e = e

pub next_out : (rule : Rule) (xs more : List ℕ) (size : ℕ) (found : Seen) → Some size ≡ message_size xs
    → found ≡ seen_first rule.sees (message_in xs) → is_counted (sight_of found) ≡ false
    → are_next rule (xs ++ more) ≡ ends_or_begins (drop size xs ++ more)
next_out rule xs more size found begins seen is =
    next_held rule xs more size found begins seen ∙ by (ends_or_begins (drop size xs ++ more)) (is_counted (sight_of found)) is
  where
    by : (goes counted : Bool) → counted ≡ false → (goes || counted) ≡ goes
    by true counted e = refl
    by false counted e = e
