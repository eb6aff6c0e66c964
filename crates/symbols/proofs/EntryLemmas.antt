-- The entries of a file stand for its symbols, and rise in its bytes.
use Rattle.std.proofs.Common.{◌≡◌, ◌↔◌, ℕ, ◌+◌, ◌-◌, ◌<◌, ◌≤◌, ◌&&◌, ◌==◌, Bool, true, false, cond, List, [], ◌∷◌, ◌++◌}
use Rattle.std.proofs.Common.{Option, Some, None, All, IfSome, length, map, option_map, take, drop, refl, sym, ap, ◌∙◌}
use Rattle.std.proofs.Common.{subst, arith, append_assoc, append-nil, length-append}
use Rattle.std.proofs.Math.Seq.{take-append_seam}
use Rattle.std.proofs.lemmas.List.{drop_at, length-map, nil_from_length, take-append-drop}
use Rattle.std.proofs.lemmas.List.Splits.{join_with_byte-slice_split}
use Rattle.std.proofs.lemmas.List.Elements.{All-cons, All-nil, All-weaker}
use Rattle.std.specs.List.{after_first, before_first, cons_option, filter_map, join_with_byte, position_or_len}
use Rattle.retire.specs.Number.{digits_number}
use Rattle.symbols.specs.File.{Symbol, is_blank, is_code_type, is_name, is_size, lines_of, name_behind, symbol_of, symbol_with}
use Rattle.symbols.specs.File.{symbols_of, without_return, without_size}
use Rattle.symbols.specs.declared.entry.Entry.{Entry}
use Rattle.symbols.specs.steps.Entries.{entries_from, entries_of, entry_of, entry_with, symbol_in}
use Rattle.symbols.proofs.NearestLemmas.{AreRising}

-- A line is what is left of it without its carriage return, and perhaps that.
abbrev IsCut : List ℕ → Type 0
IsCut line = (end : List ℕ) × (line ≡ without_return line ++ end)

cut_byte : (byte : ℕ) (b : Bool)
    → (end : List ℕ) × (byte ∷ [] ≡ cond b [] (byte ∷ []) ++ end)
cut_byte byte true = (byte ∷ [], refl)
cut_byte byte false = ([], refl)

return_cut : (line : List ℕ) → IsCut line
return_cut [] = ([], refl)
return_cut (byte ∷ []) = cut_byte byte (byte == 13)
return_cut (byte ∷ next ∷ rest) =
    let cut = return_cut (next ∷ rest) in (cut.0, ap (λ l. byte ∷ l) cut.1)

-- A name is the end of a text, and is not empty.
record IsName (text name : List ℕ) : Type 0 where
  front : List ℕ
  is : text ≡ front ++ name
  some : 1 ≤ length name

named_behind : (kind blank : ℕ) (rest name : List ℕ) (a b : Bool) → is_name rest ≡ b
    → cond (a && b) (Some rest) None ≡ Some name → IsName (kind ∷ blank ∷ rest) name
named_behind kind blank rest name false b n e = cc
named_behind kind blank rest name true false n e = cc
named_behind kind blank [] name true true n e = cc
named_behind kind blank (byte ∷ rest) name true true n e =
    let same : byte ∷ rest ≡ name = cc in
    let long = ap length same in
    record {
      front = kind ∷ blank ∷ [];
      is = ap (λ l. kind ∷ blank ∷ l) same;
      some = omega (arith, long);
    }

name_is : (behind name : List ℕ) → name_behind behind ≡ Some name → IsName behind name
name_is [] name e = cc
name_is (kind ∷ []) name e = cc
name_is (kind ∷ blank ∷ rest) name e =
    named_behind kind blank rest name (is_code_type kind && is_blank blank) (is_name rest) refl e

-- The end of an end of a text is one of the text.
within : (front text rest name : List ℕ) → text ≡ front ++ rest → IsName rest name → IsName text name
within front text rest name e h = record {
  front = front ++ h.front;
  is = e ∙ ap (λ l. front ++ l) h.is ∙ sym (append_assoc front h.front name);
  some = h.some;
}

-- What is left without a size is an end.
sized : (text : List ℕ) (b : Bool) → (front : List ℕ) × (text ≡ front ++ cond b (after_first is_blank text) text)
sized text true =
    let count = position_or_len is_blank text + 1 in
    (take count text, sym (take-append-drop count text))
sized text false = ([], refl)

-- The name of a line's symbol is the end of the line without its carriage return.
line_named : (text name : List ℕ) → name_behind (without_size (after_first is_blank text)) ≡ Some name
    → IsName text name
line_named text name e =
    let count = position_or_len is_blank text + 1 in
    let after = after_first is_blank text in
    let left = sized after (is_size (before_first is_blank after)) in
    within (take count text) text after name (sym (take-append-drop count text))
    (within left.0 after (without_size after) name left.1 (name_is (without_size after) name e))

-- The bytes of a name, found again in the file.
name_bytes : (front line more name : List ℕ) → IsName (without_return line) name
    → take (length name)
    (drop (length front + length (without_return line) - length name) (front ++ (line ++ more))) ≡ name
name_bytes front line more name h =
    let text = without_return line in
    let end = (return_cut line).0 in
    let rest = name ++ (end ++ more) in
    let long : length text ≡ length h.front + length name = ap length h.is ∙ length-append h.front name in
    let place : length (front ++ h.front) ≡ length front + length text - length name =
    omega (arith, long, length-append front h.front) in
    let parted : front ++ (line ++ more) ≡ (front ++ h.front) ++ rest =
    ap (λ l. front ++ (l ++ more)) ((return_cut line).1 ∙ ap (λ l. l ++ end) h.is)
    ∙ ap (λ l. front ++ l) (append_assoc (h.front ++ name) end more ∙ append_assoc h.front name (end ++ more))
    ∙ sym (append_assoc front h.front rest) in
    ap (take (length name))
    (ap (drop (length front + length text - length name)) parted
    ∙ drop_at (front ++ h.front) rest (length front + length text - length name) place)
    ∙ take-append_seam name (end ++ more)

-- The symbol at an address with this name.
abbrev symbol_made : ℕ → List ℕ → Symbol
symbol_made address name = record { address = address; name = name }

-- The name of an entry lies in a line of so many bytes, which begins here.
record Lies (from count : ℕ) (entry : Entry) : Type 0 where
  above : from ≤ entry.start
  within : entry.start + entry.length ≤ from + count
  some : 1 ≤ entry.length

-- An entry stands for a symbol, and its name lies in the line; or there is neither.
record Stands (file : List ℕ) (from count : ℕ) (symbol : Option Symbol) (entry : Option Entry) : Type 0 where
  same : symbol ≡ option_map (symbol_in file) entry
  lies : IfSome entry (Lies from count)

stand : (front line more : List ℕ) (n : Option ℕ) (m : Option (List ℕ))
    → ((name : List ℕ) → m ≡ Some name → IsName (without_return line) name)
    → Stands (front ++ (line ++ more)) (length front) (length line) (symbol_with n m)
    (entry_with (length front + length (without_return line)) n m)
stand front line more None None h = record { same = refl; lies = tt }
stand front line more None (Some name) h = record { same = refl; lies = tt }
stand front line more (Some address) None h = record { same = refl; lies = tt }
stand front line more (Some address) (Some name) h =
    let text = without_return line in
    let named = h name refl in
    let some = named.some in
    let long : length text ≡ length named.front + length name =
    ap length named.is ∙ length-append named.front name in
    let whole : length line ≡ length text + length (return_cut line).0 =
    ap length (return_cut line).1 ∙ length-append text (return_cut line).0 in
    record {
      same = ap (λ l. Some (symbol_made address l)) (sym (name_bytes front line more name named));
      lies = record {
        above = omega (arith, long);
        within = omega (arith, long, whole);
        some = some;
      };
    }

-- The entry of a line stands for its symbol.
line_stands : (front line more : List ℕ)
    → Stands (front ++ (line ++ more)) (length front) (length line) (symbol_of line) (entry_of (length front) line)
line_stands front line more =
    let text = without_return line in
    stand front line more (digits_number (before_first is_blank text))
    (name_behind (without_size (after_first is_blank text))) (line_named text)

-- Entries of a file stand for symbols, rise, and lie in the file from here on.
pub record AreFrom (file : List ℕ) (from : ℕ) (symbols : List Symbol) (entries : List Entry) : Type 0 where
  pub same : symbols ≡ map (symbol_in file) entries
  pub above : All (λ entry. from ≤ entry.start) entries
  pub within : All (λ entry. entry.start + entry.length ≤ length file) entries
  pub rising : AreRising entries

line_more : (file : List ℕ) (from count : ℕ) (symbol : Option Symbol) (entry : Option Entry) (symbols : List Symbol)
    (entries : List Entry) → from + count ≤ length file → Stands file from count symbol entry
    → AreFrom file (from + count + 1) symbols entries
    → AreFrom file from (cons_option symbol symbols) (cons_option entry entries)
line_more file from count symbol None symbols entries fits line h = record {
  same = ap (λ s. cons_option s symbols) line.same ∙ h.same;
  above = All-weaker (λ e. from + count + 1 ≤ e.start) (λ e. from ≤ e.start) (λ e far. omega (arith, far)) entries
      h.above;
  within = h.within;
  rising = h.rising;
}
line_more file from count symbol (Some entry) symbols entries fits line h = record {
  same = ap (λ s. cons_option s symbols) line.same ∙ ap (λ l. symbol_in file entry ∷ l) h.same;
  above = All-cons (λ e. from ≤ e.start) entry entries line.lies.above
      (All-weaker (λ e. from + count + 1 ≤ e.start) (λ e. from ≤ e.start) (λ e far. omega (arith, far)) entries
      h.above);
  within = All-cons (λ e. e.start + e.length ≤ length file) entry entries
      (omega (arith, fits, line.lies.within)) h.within;
  rising = (
    All-weaker (λ e. from + count + 1 ≤ e.start) (λ e. entry.start < e.start)
        (λ e far. omega (arith, far, line.lies.within, line.lies.some)) entries h.above,
    h.rising,
  );
}

no_lines : (file : List ℕ) (from : ℕ) → AreFrom file from [] []
no_lines file from = record {
  same = refl;
  above = All-nil (λ e. from ≤ e.start);
  within = All-nil (λ e. e.start + e.length ≤ length file);
  rising = tt;
}

lines_from : (file front : List ℕ) (lines : List (List ℕ)) → file ≡ front ++ join_with_byte 10 lines
    → AreFrom file (length front) (filter_map symbol_of lines) (entries_from (length front) lines)
lines_from file front [] e = no_lines file (length front)
lines_from file front (line ∷ []) e =
    let whole : front ++ (line ++ []) ≡ file = ap (λ l. front ++ l) (append-nil line) ∙ sym e in
    let fits : length front + length line ≤ length file =
    omega (arith, ap length whole, length-append front (line ++ []), length-append line []) in
    line_more file (length front) (length line) (symbol_of line) (entry_of (length front) line) [] [] fits
    (subst (λ l. Stands l (length front) (length line) (symbol_of line) (entry_of (length front) line)) whole
    (line_stands front line []))
    (no_lines file (length front + length line + 1))
lines_from file front (line ∷ next ∷ rest) e =
    let more = 10 ∷ join_with_byte 10 (next ∷ rest) in
    let begun = front ++ (line ++ 10 ∷ []) in
    let far : length begun ≡ length front + length line + 1 =
    length-append front (line ++ 10 ∷ []) ∙ ap (λ k. length front + k) (length-append line (10 ∷ [])) ∙ omega arith in
    let onward : file ≡ begun ++ join_with_byte 10 (next ∷ rest) =
    e ∙ ap (λ l. front ++ l) (sym (append_assoc line (10 ∷ []) (join_with_byte 10 (next ∷ rest))))
    ∙ sym (append_assoc front (line ++ 10 ∷ []) (join_with_byte 10 (next ∷ rest))) in
    let fits : length front + length line ≤ length file =
    omega (arith, ap length e, length-append front (line ++ more), length-append line more) in
    line_more file (length front) (length line) (symbol_of line) (entry_of (length front) line)
    (filter_map symbol_of (next ∷ rest)) (entries_from (length front + length line + 1) (next ∷ rest)) fits
    (subst (λ l. Stands l (length front) (length line) (symbol_of line) (entry_of (length front) line)) (sym e)
    (line_stands front line more))
    (subst (λ n. AreFrom file n (filter_map symbol_of (next ∷ rest)) (entries_from n (next ∷ rest))) far
    (lines_from file begun (next ∷ rest) onward))

-- The entries of a file stand for its symbols.
pub entries_stand : (file : List ℕ) → AreFrom file 0 (symbols_of file) (entries_of file)
entries_stand file = lines_from file [] (lines_of file) (sym (join_with_byte-slice_split 10 file))

-- A file has no symbol if and only if it has no entry.
pub none_stand : (file : List ℕ) → (length (entries_of file) ≡ 0) ↔ (symbols_of file ≡ [])
none_stand file =
    let long : length (symbols_of file) ≡ length (entries_of file) =
    ap length (entries_stand file).same ∙ length-map (entries_of file) (symbol_in file) in (
      λ none. nil_from_length (symbols_of file) (long ∙ none),
      λ none. sym long ∙ ap length none,
    )
