-- Runs of bytes, byte by byte.
use Rattle.std.proofs.Common.{◌≡◌, ◌≤◌, ◌+◌, ◌∙◌, ℕ, Bool, true, false, if◌then◌else◌, List, [], ◌∷◌, Some, drop, length, refl, ap, arith, length-take-le}
use Rattle.std.proofs.lemmas.List.{drop-drop, length-drop, nil_from_length}
use Rattle.frames.proofs.FrameLemmas.{complete}
use Rattle.frames.specs.Frame.{frame_in, frame_size, is_complete, length_in}
use Rattle.frames.specs.declared.span.Span.TheVariants as span
use Rattle.live.specs.Received.{Rule, bytes_to_next, first_span, is_taken}

-- So many bytes of a run were passed over, and the run goes on with those that are left.
abbrev pub RunGoes : Rule → List ℕ → ℕ → Type 0
RunGoes rule rest count = bytes_to_next rule (drop 1 rest) + 1 ≡ count + (bytes_to_next rule (drop 1 (drop count rest)) + 1)

pub run_start : (rule : Rule) (rest : List ℕ) → RunGoes rule rest 0
run_start rule rest = omega arith

-- The bytes after one that is passed over.
later : (count : ℕ) (rest : List ℕ) → drop 1 (drop count rest) ≡ drop (count + 1) rest
later count rest = drop-drop 1 count rest

-- A message is taken anywhere at the next one.
here : (rule : Rule) (bytes : List ℕ) → is_taken rule true bytes ≡ true → bytes_to_next rule bytes ≡ 0
here rule [] is = refl
here rule (b ∷ bytes) is = ap (λ (c : Bool). if c then 0 else bytes_to_next rule bytes + 1) is

-- None is, and there is one more.
not_here : (rule : Rule) (bytes : List ℕ) → is_taken rule true bytes ≡ false → 1 ≤ length bytes
    → bytes_to_next rule bytes ≡ bytes_to_next rule (drop 1 bytes) + 1
not_here rule [] none some = absurd (omega (arith, some))
not_here rule (b ∷ bytes) none some = ap (λ (c : Bool). if c then 0 else bytes_to_next rule bytes + 1) none

module _ (rule : Rule) (rest : List ℕ) (count : ℕ) (goes : RunGoes rule rest count) where
  -- It ends before a message that is taken anywhere.
  pub run_ended : is_taken rule true (drop (count + 1) rest) ≡ true → count + 1 ≡ bytes_to_next rule (drop 1 rest) + 1
  run_ended is =
      let none = ap (bytes_to_next rule) (later count rest) ∙ here rule (drop (count + 1) rest) is in
      omega (arith, goes, none)

  -- It ends with the bytes.
  pub run_over : length (drop (count + 1) rest) ≡ 0 → count + 1 ≡ bytes_to_next rule (drop 1 rest) + 1
  run_over none =
      let end = ap (bytes_to_next rule) (later count rest ∙ nil_from_length (drop (count + 1) rest) none) in
      omega (arith, goes, end)

  -- It goes on.
  pub run_goes : is_taken rule true (drop (count + 1) rest) ≡ false → 1 ≤ length (drop (count + 1) rest)
      → RunGoes rule rest (count + 1)
  run_goes none some =
      let more = ap (bytes_to_next rule) (later count rest) ∙ not_here rule (drop (count + 1) rest) none some in
      omega (arith, goes, more)

-- A message that is taken comes first.
pub first_taken : (rule : Rule) (offset : ℕ) (xs : List ℕ) → is_complete xs ≡ true → is_taken rule false xs ≡ true
    → first_span rule offset xs ≡ Some (span.Frame offset (frame_in xs))
first_taken rule offset [] whole taken = let c = complete [] whole in let fits = c.fits in absurd (omega (arith, fits))
first_taken rule offset (b ∷ bytes) whole taken =
    ap (λ (c : Bool). Some
    (if c then span.Frame offset (frame_in (b ∷ bytes)) else span.Bytes offset (bytes_to_next rule bytes + 1))) taken

-- Where none is, a run does, if there is a byte.
pub first_run : (rule : Rule) (offset : ℕ) (xs : List ℕ) → 1 ≤ length xs → is_taken rule false xs ≡ false
    → first_span rule offset xs ≡ Some (span.Bytes offset (bytes_to_next rule (drop 1 xs) + 1))
first_run rule offset [] some none = absurd (omega (arith, some))
first_run rule offset (b ∷ bytes) some none =
    ap (λ (c : Bool). Some
    (if c then span.Frame offset (frame_in (b ∷ bytes)) else span.Bytes offset (bytes_to_next rule bytes + 1))) none

-- How many bytes a complete message has.
pub payload_size : (xs : List ℕ) → is_complete xs ≡ true → 11 + length (frame_in xs).payload ≡ frame_size xs
payload_size xs whole =
    let c = complete xs whole in
    let fits = c.fits in
    let left = length-drop 11 xs in
    ap (λ n. 11 + n) (length-take-le (length_in xs) (drop 11 xs) (omega (arith, left, fits)))
