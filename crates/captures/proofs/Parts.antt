-- The parts of a text between bytes that pass a test, the first of them by the place where it ends.
use Rattle.std.proofs.Common.{◌≡◌, ◌<◌, ◌≤◌, ◌+◌, ◌-◌, ◌==◌, ℕ, Bool, List, [], ◌∷◌, length, take, drop}
use Rattle.std.proofs.Common.{arith, ap, refl, sym, ◌∙◌, cond}
use Rattle.std.specs.List.{position_or_len, slice_split}
use Rattle.std.specs.Str.Lines.{lines, lines_of_parts, strip_carriage_return}
use Rattle.std.proofs.lemmas.Bool.{ne_eqb}
use Rattle.std.proofs.lemmas.List.{drop_all, length-drop, take_all}
use Rattle.std.proofs.lemmas.List.Splits.{length-slice_split, slice_split_first, slice_split_none}
use Rattle.std.proofs.lemmas.List.Sums.{fails_before_first}

-- What follows a place, up to the end of the text.
pub up_to_end : (place : ℕ) (text : List ℕ) → take (length text - place) (drop place text) ≡ drop place text
up_to_end place text = take_all (length text - place) (drop place text) (omega (arith, length-drop place text))

-- The part before the first place that passes, and then the parts of what follows it.
pub first_part : (p : ℕ → Bool) (text : List ℕ) (place : ℕ) → place ≡ position_or_len p text → place < length text
    → slice_split p text ≡ take place text ∷ slice_split p (drop (place + 1) text)
first_part p text place here inside =
    let found : position_or_len p text < length text = omega (arith, here, inside) in
    slice_split_first p text 0 found
    ∙ ap (λ k. take k text ∷ slice_split p (drop (k + 1) text)) (sym here)

-- Where no byte passes, the text is the one part.
pub only_part : (p : ℕ → Bool) (text : List ℕ) → position_or_len p text ≡ length text → slice_split p text ≡ text ∷ []
only_part p text past =
    slice_split_none p text (λ k d inside. fails_before_first p text k d (omega (arith, past, inside)))

-- The byte is a line feed.
abbrev is_feed : ℕ → Bool
is_feed byte = byte == 10

pub before_more : (line : List ℕ) (parts : List (List ℕ)) → 0 < length parts
    → lines_of_parts (line ∷ parts) ≡ strip_carriage_return line ∷ lines_of_parts parts
before_more line [] some = absurd (omega (arith, some))
before_more line (part ∷ parts) some = refl

-- The line before the first line feed, and then the lines of what follows it.
pub first_line : (text : List ℕ) (place : ℕ) → place ≡ position_or_len (λ byte. byte == 10) text → place < length text
    → lines text ≡ strip_carriage_return (take place text) ∷ lines (drop (place + 1) text)
first_line text place here inside =
    let rest = drop (place + 1) text in
    ap lines_of_parts (first_part is_feed text place here inside)
    ∙ before_more (take place text) (slice_split is_feed rest) (omega (arith, length-slice_split is_feed rest))

-- A text with no line feed, and with a byte, is the one line.
pub last_line : (text : List ℕ) → position_or_len (λ byte. byte == 10) text ≡ length text → 0 < length text
    → lines text ≡ text ∷ []
last_line text past some =
    ap lines_of_parts (only_part is_feed text past)
    ∙ ap (λ b. cond b [] (text ∷ [])) (ne_eqb (length text) 0 (λ none. omega (arith, none, some)))

-- Nothing follows the end of a text.
pub at_end : (place : ℕ) (text : List ℕ) → length text ≤ place → drop place text ≡ []
at_end place text past = drop_all place text past
