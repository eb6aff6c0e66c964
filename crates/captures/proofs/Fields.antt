-- The fields of a line, one by one.
use Rattle.std.proofs.Common.{◌≡◌, ◌<◌, ◌+◌, ◌==◌, ◌||◌, ◌∙◌, ℕ, Bool, true, false, All, List, [], ◌∷◌, ◌++◌}
use Rattle.std.proofs.Common.{Some, arith, ap, refl, sym, subst, length, drop, take, get_or}
use Rattle.std.proofs.Common.{append-nil, length-append, suc, take-append-drop, true≢false}
use Rattle.std.specs.Prelude.{cond, if◌then◌else◌, not, slice_index}
use Rattle.std.specs.List.{filter, flat_map, onto_first, position_or_len, slice_split}
use Rattle.std.proofs.lemmas.Bool.{eqb-true, ne_eqb}
use Rattle.std.proofs.lemmas.List.Elements.{All-cons, All-head, All-nil, All-tail}
use Rattle.std.proofs.lemmas.List.Splits.{length-slice_split, slice_split-cons_no, slice_split-cons_yes, slice_split_at}
use Rattle.std.proofs.lemmas.List.Splits.{slice_split_none}
use Rattle.captures.specs.Line.{are_passed_over, fields_of, is_blank, is_comma, is_empty, is_over, is_passed_over}
use Rattle.captures.specs.Line.{or_empty, words_of}
use Rattle.captures.specs.declared.line_field.Stop.TheVariants.{End, Word}
use Rattle.captures.specs.steps.Cutting.{after_comma, fields_left, stops, unblanked}

-- The fields of parts between commas.
abbrev fields_in : List (List ℕ) → List (List ℕ)
fields_in parts = flat_map (λ part. or_empty (words_of part)) parts

-- The fields of parts that follow a field: the first part may have no word.
abbrev fields_behind : List (List ℕ) → List (List ℕ)
fields_behind [] = []
fields_behind (part ∷ parts) = words_of part ++ fields_in parts

-- The fields of a text that follows a field.
abbrev pub fields_after : List ℕ → List (List ℕ)
fields_after text = fields_behind (slice_split is_comma text)

-- No byte ends a word.
abbrev pub IsWord : List ℕ → Type 0
IsWord word = All (λ byte. stops End byte ≡ false) word

neither : (a b : Bool) → (a || b) ≡ false → (a ≡ false) × (b ≡ false)
neither true b non = absurd (true≢false non)
neither false b non = (refl, non)

no_blank : (byte : ℕ) → stops End byte ≡ false → is_blank byte ≡ false
no_blank byte non = (neither (is_blank byte) (is_comma byte) non).0

no_comma : (byte : ℕ) → stops End byte ≡ false → is_comma byte ≡ false
no_comma byte non = (neither (is_blank byte) (is_comma byte) non).1

no_blanks : (word : List ℕ) → IsWord word → All (λ byte. is_blank byte ≡ false) word
no_blanks word is k d inside = no_blank (get_or word k d) (is k d inside)

no_commas : (word : List ℕ) → IsWord word → All (λ byte. is_comma byte ≡ false) word
no_commas word is k d inside = no_comma (get_or word k d) (is k d inside)

blank_no_comma : (byte : ℕ) → is_blank byte ≡ true → is_comma byte ≡ false
blank_no_comma byte blank = go (is_comma byte) refl
  where
    go : (b : Bool) → is_comma byte ≡ b → b ≡ false
    go true comma =
        let same : byte ≡ 44 = eqb-true byte 44 comma in
        let non : is_blank 44 ≡ true = subst (λ b. is_blank b ≡ true) same blank in absurd (true≢false (sym non))
    go false comma = refl

-- ---- words

some_bytes : (first : ℕ) (word : List ℕ) → is_empty (first ∷ word) ≡ false
some_bytes first word = ne_eqb (length (first ∷ word)) 0 (λ none. omega (arith, none))

-- A word that is not empty is kept.
kept : (first : ℕ) (word : List ℕ) (words : List (List ℕ))
    → filter (λ word. not (is_empty word)) ((first ∷ word) ∷ words)
    ≡ (first ∷ word) ∷ filter (λ word. not (is_empty word)) words
kept first word words =
    let others = filter (λ word. not (is_empty word)) words in
    ap (λ b. cond (not b) ((first ∷ word) ∷ others) others) (some_bytes first word)

-- A blank before a text adds no word.
words_skip : (byte : ℕ) (text : List ℕ) → is_blank byte ≡ true → words_of (byte ∷ text) ≡ words_of text
words_skip byte text blank =
    ap (filter (λ word. not (is_empty word))) (slice_split-cons_yes is_blank byte text blank)

-- A byte that is none begins the first word.
first_word : (byte : ℕ) (text : List ℕ) → is_blank byte ≡ false
    → (word : List ℕ) × ((words : List (List ℕ)) × (words_of (byte ∷ text) ≡ (byte ∷ word) ∷ words))
first_word byte text non =
    let cut = ap (filter (λ word. not (is_empty word))) (slice_split-cons_no is_blank byte text non) in
    let from = go (slice_split is_blank text) in (from.0, (from.1.0, cut ∙ from.1.1))
  where
    go : (parts : List (List ℕ))
        → (word : List ℕ) × ((words : List (List ℕ))
        × (filter (λ word. not (is_empty word)) (onto_first byte parts) ≡ (byte ∷ word) ∷ words))
    go [] = ([], ([], kept byte [] []))
    go (part ∷ parts) = (part, (filter (λ word. not (is_empty word)) parts, kept byte part parts))

-- A word and a blank before a text add the word.
word_before : (first : ℕ) (word : List ℕ) (byte : ℕ) (text : List ℕ) → IsWord (first ∷ word) → is_blank byte ≡ true
    → words_of ((first ∷ word) ++ byte ∷ text) ≡ (first ∷ word) ∷ words_of text
word_before first word byte text is blank =
    ap (filter (λ word. not (is_empty word)))
    (slice_split_at is_blank (first ∷ word) byte text (no_blanks (first ∷ word) is) blank)
    ∙ kept first word (slice_split is_blank text)

word_alone : (first : ℕ) (word : List ℕ) → IsWord (first ∷ word) → words_of (first ∷ word) ≡ (first ∷ word) ∷ []
word_alone first word is =
    ap (filter (λ word. not (is_empty word))) (slice_split_none is_blank (first ∷ word) (no_blanks (first ∷ word) is))
    ∙ kept first word []

-- ---- fields

some_parts : (text : List ℕ) → 0 < length (slice_split is_comma text)
some_parts text = omega (arith, length-slice_split is_comma text)

parts_skip : (byte : ℕ) (parts : List (List ℕ)) → 0 < length parts → is_blank byte ≡ true
    → (fields_in (onto_first byte parts) ≡ fields_in parts) × (fields_behind
    (onto_first byte parts) ≡ fields_behind parts)
parts_skip byte [] some blank = absurd (omega (arith, some))
parts_skip byte (part ∷ parts) some blank =
    let same = words_skip byte part blank in (
      ap (λ words. or_empty words ++ fields_in parts) same,
      ap (λ words. words ++ fields_in parts) same,
    )

-- A blank before a text adds no field.
pub fields_skip : (byte : ℕ) (text : List ℕ) → is_blank byte ≡ true → fields_of (byte ∷ text) ≡ fields_of text
fields_skip byte text blank =
    ap fields_in (slice_split-cons_no is_comma byte text (blank_no_comma byte blank))
    ∙ (parts_skip byte (slice_split is_comma text) (some_parts text) blank).0

after_skip : (byte : ℕ) (text : List ℕ) → is_blank byte ≡ true → fields_after (byte ∷ text) ≡ fields_after text
after_skip byte text blank =
    ap fields_behind (slice_split-cons_no is_comma byte text (blank_no_comma byte blank))
    ∙ (parts_skip byte (slice_split is_comma text) (some_parts text) blank).1

-- A comma before a text adds an empty field.
comma_fields : (byte : ℕ) (text : List ℕ) → is_comma byte ≡ true → fields_of (byte ∷ text) ≡ [] ∷ fields_of text
comma_fields byte text comma = ap fields_in (slice_split-cons_yes is_comma byte text comma)

comma_after : (byte : ℕ) (text : List ℕ) → is_comma byte ≡ true → fields_after (byte ∷ text) ≡ fields_of text
comma_after byte text comma = ap fields_behind (slice_split-cons_yes is_comma byte text comma)

parts_word : (byte : ℕ) (parts : List (List ℕ)) → is_blank byte ≡ false
    → fields_in (onto_first byte parts) ≡ fields_behind (onto_first byte parts)
parts_word byte [] non = go (words_of (byte ∷ [])) (first_word byte [] non)
  where
    go : (words : List (List ℕ)) → (word : List ℕ) × ((rest : List (List ℕ)) × (words ≡ (byte ∷ word) ∷ rest))
        → or_empty words ++ [] ≡ words ++ []
    go [] found = let bad : [] ≡ (byte ∷ found.0) ∷ found.1.0 = found.1.1 in cc
    go (word ∷ words) found = refl
parts_word byte (part ∷ parts) non = go (words_of (byte ∷ part)) (first_word byte part non)
  where
    go : (words : List (List ℕ)) → (word : List ℕ) × ((rest : List (List ℕ)) × (words ≡ (byte ∷ word) ∷ rest))
        → or_empty words ++ fields_in parts ≡ words ++ fields_in parts
    go [] found = let bad : [] ≡ (byte ∷ found.0) ∷ found.1.0 = found.1.1 in cc
    go (word ∷ words) found = refl

-- Where a word begins, the fields are the same after a field.
word_after : (byte : ℕ) (text : List ℕ) → is_blank byte ≡ false → is_comma byte ≡ false
    → fields_after (byte ∷ text) ≡ fields_of (byte ∷ text)
word_after byte text non none =
    let cut = slice_split-cons_no is_comma byte text none in
    ap fields_behind cut ∙ sym (parts_word byte (slice_split is_comma text) non) ∙ sym (ap fields_in cut)

-- What ends a word: a blank, a tab or a comma, or the end of the text.
abbrev pub EndsWord : List ℕ → Type 0
EndsWord [] = Unit {0}
EndsWord (byte ∷ text) = stops End byte ≡ true

-- The parts with a text before the first.
abbrev onto_parts : List ℕ → List (List ℕ) → List (List ℕ)
onto_parts text [] = text ∷ []
onto_parts text (part ∷ parts) = (text ++ part) ∷ parts

onto_more : (byte : ℕ) (text : List ℕ) (parts : List (List ℕ))
    → onto_first byte (onto_parts text parts) ≡ onto_parts (byte ∷ text) parts
onto_more byte text [] = refl
onto_more byte text (part ∷ parts) = refl

none_onto : (parts : List (List ℕ)) → 0 < length parts → parts ≡ onto_parts [] parts
none_onto [] some = absurd (omega (arith, some))
none_onto (part ∷ parts) some = refl

split_word : (word text : List ℕ) → All (λ byte. is_comma byte ≡ false) word
    → slice_split is_comma (word ++ text) ≡ onto_parts word (slice_split is_comma text)
split_word [] text none = none_onto (slice_split is_comma text) (some_parts text)
split_word (byte ∷ word) text none =
    slice_split-cons_no is_comma byte (word ++ text) (All-head (λ b. is_comma b ≡ false) byte word none)
    ∙ ap (onto_first byte) (split_word word text (All-tail (λ b. is_comma b ≡ false) byte word none))
    ∙ onto_more byte word (slice_split is_comma text)

-- The parts begin with no word: the first is empty, or begins with a blank.
abbrev BeginBlank : List (List ℕ) → Type 0
BeginBlank [] = ⊥
BeginBlank ([] ∷ parts) = Unit {0}
BeginBlank ((byte ∷ part) ∷ parts) = is_blank byte ≡ true

parts_of_word : (first : ℕ) (word : List ℕ) (parts : List (List ℕ)) → IsWord (first ∷ word) → BeginBlank parts
    → fields_in (onto_parts (first ∷ word) parts) ≡ (first ∷ word) ∷ fields_behind parts
parts_of_word first word [] is begins = absurd begins
parts_of_word first word ([] ∷ parts) is begins =
    ap (λ text. or_empty (words_of text) ++ fields_in parts) (append-nil (first ∷ word))
    ∙ ap (λ words. or_empty words ++ fields_in parts) (word_alone first word is)
parts_of_word first word ((byte ∷ part) ∷ parts) is begins =
    ap (λ words. or_empty words ++ fields_in parts) (word_before first word byte part is begins)
    ∙ ap (λ words. (first ∷ word) ∷ (words ++ fields_in parts)) (sym (words_skip byte part begins))

onto_blank : (byte : ℕ) (parts : List (List ℕ)) → is_blank byte ≡ true → BeginBlank (onto_first byte parts)
onto_blank byte [] blank = blank
onto_blank byte (part ∷ parts) blank = blank

either : (a b : Bool) → (a || b) ≡ true → b ≡ false → a ≡ true
either true b so non = refl
either false b so non = absurd (true≢false (sym so ∙ non))

begin_blank : (text : List ℕ) → EndsWord text → BeginBlank (slice_split is_comma text)
begin_blank [] ends = tt
begin_blank (byte ∷ text) ends = go (is_comma byte) refl
  where
    go : (comma : Bool) → is_comma byte ≡ comma → BeginBlank (slice_split is_comma (byte ∷ text))
    go true comma = subst BeginBlank (sym (slice_split-cons_yes is_comma byte text comma)) tt
    go false comma =
        subst BeginBlank (sym (slice_split-cons_no is_comma byte text comma))
        (onto_blank byte (slice_split is_comma text) (either (is_blank byte) (is_comma byte) ends comma))

-- A word is a field, and those after it follow.
pub word_first : (first : ℕ) (word text : List ℕ) → IsWord (first ∷ word) → EndsWord text
    → fields_of ((first ∷ word) ++ text) ≡ (first ∷ word) ∷ fields_after text
word_first first word text is ends =
    ap fields_in (split_word (first ∷ word) text (no_commas (first ∷ word) is))
    ∙ parts_of_word first word (slice_split is_comma text) is (begin_blank text ends)

-- ---- words one after the other

-- A text begins with a byte of a word.
abbrev pub BeginsWord : List ℕ → Type 0
BeginsWord [] = ⊥
BeginsWord (byte ∷ text) = stops End byte ≡ false

pub begins_with : (word text : List ℕ) → 0 < length word → IsWord word → BeginsWord (word ++ text)
begins_with [] text some is = absurd (omega (arith, some))
begins_with (first ∷ word) text some is = All-head (λ byte. stops End byte ≡ false) first word is

pub begins_word : (word : List ℕ) → 0 < length word → IsWord word → BeginsWord word
begins_word [] some is = absurd (omega (arith, some))
begins_word (first ∷ word) some is = All-head (λ byte. stops End byte ≡ false) first word is

after_blank : (rest : List ℕ) → BeginsWord rest → fields_after (32 ∷ rest) ≡ fields_of rest
after_blank [] begins = absurd begins
after_blank (byte ∷ rest) begins =
    after_skip 32 (byte ∷ rest) refl ∙ word_after byte rest (no_blank byte begins) (no_comma byte begins)

-- A word and a blank, and then another word.
pub word_then : (word rest : List ℕ) → 0 < length word → IsWord word → BeginsWord rest
    → fields_of (word ++ (32 ∷ rest)) ≡ word ∷ fields_of rest
word_then [] rest some is begins = absurd (omega (arith, some))
word_then (first ∷ word) rest some is begins =
    word_first first word (32 ∷ rest) is refl ∙ ap (λ fields. (first ∷ word) ∷ fields) (after_blank rest begins)

-- A word alone.
pub word_last : (word : List ℕ) → 0 < length word → IsWord word → fields_of word ≡ word ∷ []
word_last [] some is = absurd (omega (arith, some))
word_last (first ∷ word) some is =
    ap fields_of (sym (append-nil (first ∷ word))) ∙ word_first first word [] is tt

-- A line that begins with a word, but not with `#`, is not passed over.
pub not_passed : (text : List ℕ) → BeginsWord text → (slice_index text 0 == 35) ≡ false → is_passed_over text ≡ false
not_passed [] begins other = absurd begins
not_passed (byte ∷ text) begins other =
    let first = first_word byte text (no_blank byte begins) in ap are_passed_over first.1.1 ∙ other

-- ---- the blanks before a text

one_more : (n : ℕ) → 1 + n ≡ suc n
one_more n = omega arith

unblanked_blank : (byte : ℕ) (text : List ℕ) → is_blank byte ≡ true → unblanked (byte ∷ text) ≡ unblanked text
unblanked_blank byte text blank =
    ap (λ b. drop (cond (not (not b)) (1 + position_or_len (stops Word) text) 0) (byte ∷ text)) blank
    ∙ ap (λ place. drop place (byte ∷ text)) (one_more (position_or_len (stops Word) text))

unblanked_other : (byte : ℕ) (text : List ℕ) → is_blank byte ≡ false → unblanked (byte ∷ text) ≡ byte ∷ text
unblanked_other byte text non =
    ap (λ b. drop (cond (not (not b)) (1 + position_or_len (stops Word) text) 0) (byte ∷ text)) non

-- A text begins with no blank.
abbrev pub BeginsNoBlank : List ℕ → Type 0
BeginsNoBlank [] = Unit {0}
BeginsNoBlank (byte ∷ text) = is_blank byte ≡ false

-- The text begins with no blank, and has the same words and fields.
pub record IsUnblanked (text rest : List ℕ) : Type 0 where
  pub begins : BeginsNoBlank rest
  pub words : words_of rest ≡ words_of text
  pub fields : fields_of rest ≡ fields_of text
  pub after : fields_after rest ≡ fields_after text

unblanked_from : (byte : ℕ) (text : List ℕ) (blank : Bool) → is_blank byte ≡ blank → IsUnblanked text (unblanked text)
    → IsUnblanked (byte ∷ text) (unblanked (byte ∷ text))
unblanked_from byte text true blank rest =
    subst (IsUnblanked (byte ∷ text)) (sym (unblanked_blank byte text blank)) (record {
      begins = rest.begins;
      words = rest.words ∙ sym (words_skip byte text blank);
      fields = rest.fields ∙ sym (fields_skip byte text blank);
      after = rest.after ∙ sym (after_skip byte text blank);
    })
unblanked_from byte text false non rest =
    subst (IsUnblanked (byte ∷ text)) (sym (unblanked_other byte text non)) (record {
      begins = non;
      words = refl;
      fields = refl;
      after = refl;
    })

pub is_unblanked : (text : List ℕ) → IsUnblanked text (unblanked text)
is_unblanked [] = record { begins = tt; words = refl; fields = refl; after = refl }
is_unblanked (byte ∷ text) = unblanked_from byte text (is_blank byte) refl (is_unblanked text)

-- ---- a cut

-- What is left after a field, once the blanks after it are passed.
left_after : (rest : List ℕ) → BeginsNoBlank rest → fields_after rest ≡ fields_left (after_comma rest)
left_after [] begins = refl
left_after (byte ∷ rest) begins = go (is_comma byte) refl
  where
    go : (comma : Bool) → is_comma byte ≡ comma → fields_after (byte ∷ rest) ≡ fields_left (after_comma (byte ∷ rest))
    go true comma =
        comma_after byte rest comma
        ∙ ap (λ b. fields_left (if b then Some rest else Some (byte ∷ rest))) (sym comma)
    go false none =
        word_after byte rest begins none
        ∙ ap (λ b. fields_left (if b then Some rest else Some (byte ∷ rest))) (sym none)

cut_parts : (word text : List ℕ) → IsWord word → EndsWord text → BeginsNoBlank (word ++ text)
    → fields_of (word ++ text) ≡ word ∷ fields_left (after_comma (unblanked text))
cut_parts (first ∷ word) text is ends begins =
    let rest = is_unblanked text in
    word_first first word text is ends
    ∙ ap (λ fields. (first ∷ word) ∷ fields) (sym rest.after ∙ left_after (unblanked text) rest.begins)
cut_parts [] [] is ends begins = refl
cut_parts [] (byte ∷ text) is ends begins =
    let comma : is_comma byte ≡ true = either_other (is_blank byte) (is_comma byte) ends begins in
    comma_fields byte text comma
    ∙ ap (λ b. [] ∷ fields_left (if b then Some text else Some (byte ∷ text))) (sym comma)
    ∙ ap (λ rest. [] ∷ fields_left (after_comma rest)) (sym (unblanked_other byte text begins))
  where
    either_other : (a b : Bool) → (a || b) ≡ true → a ≡ false → b ≡ true
    either_other true b so non = absurd (true≢false non)
    either_other false b so non = so

-- A text up to a place, and what follows, where the place is 0 if its first byte ends a word.
abbrev ArePartsAt : ℕ → List ℕ → Bool → Type 0
ArePartsAt byte text ends =
    IsWord (take (cond (not ends) (1 + position_or_len (stops End) text) 0) (byte ∷ text))
    × EndsWord (drop (cond (not ends) (1 + position_or_len (stops End) text) 0) (byte ∷ text))

-- The text up to the first byte that ends a word, and what follows.
ends_at : (text : List ℕ) → IsWord (take (position_or_len (stops End) text) text)
    × EndsWord (drop (position_or_len (stops End) text) text)
ends_at [] = (All-nil (λ byte. stops End byte ≡ false), tt)
ends_at (byte ∷ text) = go (stops End byte) refl (ends_at text)
  where
    go : (b : Bool) → stops End byte ≡ b
        → IsWord (take (position_or_len (stops End) text) text)
        × EndsWord (drop (position_or_len (stops End) text) text) → ArePartsAt byte text (stops End byte)
    go true so more = subst (ArePartsAt byte text) (sym so) (All-nil (λ byte. stops End byte ≡ false), so)
    go false non more =
        subst (ArePartsAt byte text) (sym non)
        (subst (λ place. IsWord (take place (byte ∷ text)) × EndsWord (drop place (byte ∷ text)))
        (sym (one_more (position_or_len (stops End) text))) (
          All-cons (λ byte. stops End byte ≡ false) byte (take (position_or_len (stops End) text) text) non more.0,
          more.1,
        ))

-- The first field of a text, and what is left.
pub cut_fields : (text : List ℕ)
    → fields_of text
    ≡ take (position_or_len (stops End) (unblanked text)) (unblanked text)
    ∷ fields_left (after_comma (unblanked (drop (position_or_len (stops End) (unblanked text)) (unblanked text))))
cut_fields text =
    let rest = unblanked text in
    let is = is_unblanked text in
    let place = position_or_len (stops End) rest in
    let at = ends_at rest in
    let whole : take place rest ++ drop place rest ≡ rest = take-append-drop place rest in
    sym is.fields ∙ ap fields_of (sym whole)
    ∙ cut_parts (take place rest) (drop place rest) at.0 at.1 (subst BeginsNoBlank (sym whole) is.begins)

-- ---- lines that are passed over

first_byte : (rest : List ℕ) → BeginsNoBlank rest
    → are_passed_over (words_of rest) ≡ (is_empty rest || (slice_index rest 0 == 35))
first_byte [] begins = refl
first_byte (byte ∷ rest) begins =
    let first = first_word byte rest begins in
    ap are_passed_over first.1.1 ∙ sym (ap (λ b. b || (byte == 35)) (some_bytes byte rest))

-- A line is passed over where what is behind its blanks is empty, or begins with `#`.
pub passed_over : (line : List ℕ)
    → is_passed_over line ≡ (is_empty (unblanked line) || (slice_index (unblanked line) 0 == 35))
passed_over line =
    let is = is_unblanked line in ap are_passed_over (sym is.words) ∙ first_byte (unblanked line) is.begins

-- ---- what is left after a field

some_words : (words : List (List ℕ)) → 0 < length (or_empty words)
some_words [] = omega arith
some_words (word ∷ words) = omega arith

some_in : (parts : List (List ℕ)) → 0 < length parts → 0 < length (fields_in parts)
some_in [] some = absurd (omega (arith, some))
some_in (part ∷ parts) some =
    omega (arith, some_words (words_of part), length-append (or_empty (words_of part)) (fields_in parts))

-- A text has a field.
pub some_fields : (text : List ℕ) → 0 < length (fields_of text)
some_fields text = some_in (slice_split is_comma text) (some_parts text)

not_over : (time : List ℕ) (more : List (List ℕ)) → 0 < length more → is_over (time ∷ more) ≡ false
not_over time [] some = absurd (omega (arith, some))
not_over time (field ∷ more) some = refl

-- Two fields are no time.
pub two_left : (text time rest : List ℕ) → fields_of text ≡ time ∷ fields_of rest → is_over (fields_of text) ≡ false
two_left text time rest parted = ap is_over parted ∙ not_over time (fields_of rest) (some_fields rest)
