-- The lines of a text in two parts, where the first ends with a line's end.
use Rattle.std.proofs.Common.{◌≡◌, ◌<◌, ◌==◌, ℕ, Bool, true, false, List, [], ◌∷◌, ◌++◌, length, map}
use Rattle.std.proofs.Common.{arith, ap, refl, sym, ◌∙◌, append_assoc, append-nil, cond, length-append}
use Rattle.std.specs.List.{onto_first, slice_split}
use Rattle.std.specs.Str.Lines.{lines, lines_of_parts, strip_carriage_return}
use Rattle.std.proofs.lemmas.List.Splits.{length-slice_split}
use Rattle.captures.proofs.Parts.{before_more}

onto_parts : (byte : ℕ) (parts later : List (List ℕ)) → 0 < length parts
    → onto_first byte (parts ++ later) ≡ onto_first byte parts ++ later
onto_parts byte [] later some = absurd (omega (arith, some))
onto_parts byte (part ∷ parts) later some = refl

one_split : (ends : Bool) (byte : ℕ) (all parts later : List (List ℕ)) → all ≡ parts ++ later → 0 < length parts
    → cond ends ([] ∷ all) (onto_first byte all) ≡ cond ends ([] ∷ parts) (onto_first byte parts) ++ later
one_split true byte all parts later is some = ap (λ l. [] ∷ l) is
one_split false byte all parts later is some = ap (onto_first byte) is ∙ onto_parts byte parts later some

split_at_feed : (front back : List ℕ)
    → slice_split (λ byte. byte == 10) (front ++ (10 ∷ back))
    ≡ slice_split (λ byte. byte == 10) front ++ slice_split (λ byte. byte == 10) back
split_at_feed [] back = refl
split_at_feed (byte ∷ front) back =
    one_split (byte == 10) byte (slice_split (λ byte. byte == 10) (front ++ (10 ∷ back)))
    (slice_split (λ byte. byte == 10) front) (slice_split (λ byte. byte == 10) back) (split_at_feed front back)
    (omega (arith, length-slice_split (λ byte. byte == 10) front))

lines_before : (parts later : List (List ℕ)) → 0 < length later
    → lines_of_parts (parts ++ later) ≡ map strip_carriage_return parts ++ lines_of_parts later
lines_before [] later some = refl
lines_before (part ∷ parts) later some =
    before_more part (parts ++ later) (omega (arith, some, length-append parts later))
    ∙ ap (λ l. strip_carriage_return part ∷ l) (lines_before parts later some)

-- The lines up to a line feed, and then those of what follows it.
pub lines_at_feed : (front back : List ℕ)
    → lines (front ++ (10 ∷ back)) ≡ map strip_carriage_return (slice_split (λ byte. byte == 10) front) ++ lines back
lines_at_feed front back =
    ap lines_of_parts (split_at_feed front back)
    ∙ lines_before (slice_split (λ byte. byte == 10) front) (slice_split (λ byte. byte == 10) back)
    (omega (arith, length-slice_split (λ byte. byte == 10) back))

-- The lines of a text that ends with a line feed, and then those of what follows it.
pub lines_behind_feed : (front back : List ℕ)
    → lines ((front ++ (10 ∷ [])) ++ back) ≡ lines (front ++ (10 ∷ [])) ++ lines back
lines_behind_feed front back =
    ap lines (append_assoc front (10 ∷ []) back)
    ∙ lines_at_feed front back
    ∙ ap (λ l. l ++ lines back) (sym (lines_at_feed front []
    ∙ append-nil (map strip_carriage_return (slice_split (λ byte. byte == 10) front))))
