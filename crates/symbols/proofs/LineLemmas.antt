-- The lines of a file, as they are met byte by byte.
use Rattle.std.proofs.Common.{◌≡◌, ℕ, ◌+◌, ◌-◌, ◌<◌, ◌≤◌, ◌==◌, false, List, [], ◌∷◌, ◌++◌, Option, Some, None, All}
use Rattle.std.proofs.Common.{get_or, length, slice_index, option_to_list, take, drop, refl, sym, ap, ◌∙◌, subst, arith}
use Rattle.std.proofs.Common.{append_assoc, append-nil}
use Rattle.std.proofs.Math.Seq.{drop-append-add, take_all}
use Rattle.std.proofs.lemmas.Bool.Decides.{nat_tests}
use Rattle.std.proofs.lemmas.List.{drop_more, get_or-drop, length-drop, length-take-le, take-append-drop}
use Rattle.std.proofs.lemmas.List.Elements.{All-more, All-nil}
use Rattle.std.proofs.lemmas.List.Splits.{slice_split_at, slice_split_none}
use Rattle.std.specs.List.{cons_option}
use Rattle.symbols.specs.File.{lines_of}
use Rattle.symbols.specs.declared.entry.Entry.{Entry}
use Rattle.symbols.specs.steps.Entries.{entries_from, entries_of, entry_of}

-- No byte of a part ends a line.
abbrev IsClear : List ℕ → Type 0
IsClear part = All (λ byte. (byte == 10) ≡ false) part

-- The lines before one that begins here gave these entries, and no line ends before a place.
pub record IsReading (bytes : List ℕ) (from place : ℕ) (done : List Entry) : Type 0 where
  pub below : from ≤ place
  pub clear : IsClear (take (place - from) (drop from bytes))
  pub left : done ++ entries_from from (lines_of (drop from bytes)) ≡ entries_of bytes

-- A byte that ends no line is passed.
pub byte_passed : (bytes : List ℕ) (from place : ℕ) (done : List Entry) → IsReading bytes from place done
    → place < length bytes → ¬ (slice_index bytes place ≡ 10) → IsReading bytes from (place + 1) done
byte_passed bytes from place done h inside other =
    let more : place + 1 - from ≡ place - from + 1 = omega (arith, h.below) in
    let there : from + (place - from) ≡ place = omega (arith, h.below) in
    let low : place - from < length (drop from bytes) = omega (arith, length-drop from bytes, inside, h.below) in
    let byte : get_or (drop from bytes) (place - from) 0 ≡ get_or bytes place 0 =
    get_or-drop from bytes (place - from) 0 ∙ ap (λ k. get_or bytes k 0) there in
    let test : (get_or bytes place 0 == 10) ≡ false = grind (arith, nat_tests) in
    record {
      below = omega (arith, h.below);
      clear = subst (λ k. IsClear (take k (drop from bytes))) (sym more)
          (All-more (λ b. (b == 10) ≡ false) (drop from bytes) (place - from) 0 low h.clear
          (ap (λ b. b == 10) byte ∙ test));
      left = h.left;
    }

option_first : (o : Option Entry) (es : List Entry) → cons_option o es ≡ option_to_list o ++ es
option_first None es = refl
option_first (Some e) es = refl

-- The line that ends at a place gives its entry.
pub line_read : (bytes : List ℕ) (from place : ℕ) (done : List Entry) → IsReading bytes from place done
    → place < length bytes → slice_index bytes place ≡ 10
    → IsReading bytes (place + 1) (place + 1)
    (done ++ option_to_list (entry_of from (take (place - from) (drop from bytes))))
line_read bytes from place done h inside feed =
    let n = place - from in
    let line = take n (drop from bytes) in
    let rest = drop (place + 1) bytes in
    let low : n ≤ length (drop from bytes) = omega (arith, length-drop from bytes, inside, h.below) in
    let count : length line ≡ n = length-take-le n (drop from bytes) low in
    let onward : from + length line + 1 ≡ place + 1 = omega (arith, count, h.below) in
    let few : from ≤ length bytes = omega (arith, inside, h.below) in
    let front : length (take from bytes) ≡ from = length-take-le from bytes few in
    let there : from + n ≡ place = omega (arith, h.below) in
    let behind : drop n (drop from bytes) ≡ drop place bytes =
    sym (drop-append-add (take from bytes) (drop from bytes) n)
    ∙ (λ i. drop (front i + n) (take-append-drop from bytes i)) ∙ ap (λ k. drop k bytes) there in
    let first : drop place bytes ≡ 10 ∷ rest = drop_more bytes place 0 inside ∙ ap (λ b. b ∷ rest) feed in
    let parted : drop from bytes ≡ line ++ 10 ∷ rest =
    sym (take-append-drop n (drop from bytes)) ∙ ap (λ l. line ++ l) (behind ∙ first) in
    let lines : lines_of (drop from bytes) ≡ line ∷ lines_of rest =
    ap lines_of parted ∙ slice_split_at (λ b. b == 10) line 10 rest h.clear refl in
    let entries : entries_from from (lines_of (drop from bytes))
    ≡ option_to_list (entry_of from line) ++ entries_from (place + 1) (lines_of rest) =
    ap (entries_from from) lines
    ∙ ap (λ k. cons_option (entry_of from line) (entries_from k (lines_of rest))) onward
    ∙ option_first (entry_of from line) (entries_from (place + 1) (lines_of rest)) in
    let none : place + 1 - (place + 1) ≡ 0 = omega arith in
    record {
      below = omega arith;
      clear = subst (λ k. IsClear (take k (drop (place + 1) bytes))) (sym none) (All-nil (λ b. (b == 10) ≡ false));
      left = append_assoc done (option_to_list (entry_of from line)) (entries_from (place + 1) (lines_of rest))
          ∙ ap (λ l. done ++ l) (sym entries) ∙ h.left;
    }

-- The last line gives its entry.
pub last_read : (bytes : List ℕ) (from place : ℕ) (done : List Entry) → IsReading bytes from place done
    → length bytes ≤ place
    → done ++ option_to_list (entry_of from (take (length bytes - from) (drop from bytes))) ≡ entries_of bytes
last_read bytes from place done h all =
    let line = drop from bytes in
    let few : length line ≤ place - from = omega (arith, length-drop from bytes, all) in
    let count : length line ≤ length bytes - from = omega (arith, length-drop from bytes) in
    let clear : IsClear line = subst IsClear (take_all (place - from) line few) h.clear in
    let entries : entries_from from (lines_of line) ≡ option_to_list (entry_of from line) =
    ap (entries_from from) (slice_split_none (λ b. b == 10) line clear) ∙ option_first (entry_of from line) []
    ∙ append-nil (option_to_list (entry_of from line)) in
    ap (λ l. done ++ option_to_list (entry_of from l)) (take_all (length bytes - from) line count)
    ∙ ap (λ l. done ++ l) (sym entries) ∙ h.left
