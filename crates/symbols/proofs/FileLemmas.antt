-- What a search among the entries of a file finds is what a place is named.
use Rattle.std.proofs.Common.{◌≡◌, ◌⊎◌, ℕ, ◌+◌, ◌-◌, ◌<◌, ◌≤◌, List, Option, Some, None, length, map}
use Rattle.std.proofs.Common.{option_map, take, drop, ap, sym, ◌∙◌, subst}
use Rattle.std.proofs.lemmas.List.Elements.{All-contains}
use Rattle.std.proofs.lemmas.List.Sorted.{All-permutation, Contains-permutation, IsPermutation-sym}
use Rattle.symbols.specs.File.{symbols_of}
use Rattle.symbols.specs.Nearest.{Naming, named_by, nearest, symbol_at}
use Rattle.symbols.specs.declared.entry.Entry.{Entry}
use Rattle.symbols.specs.steps.Entries.{AreInOrder, IsUpTo, entries_of, symbol_in}
use Rattle.symbols.specs.steps.Found.{IsLastUpTo}
use Rattle.symbols.proofs.EntryLemmas.{entries_stand}
use Rattle.symbols.proofs.NearestLemmas.{nearest-map, nearest_entry, nearest_found}

-- What is found among the entries in order is found among them in the order of the file.
found_in_file : (file : List ℕ) (entries : List Entry) (place : ℕ) (r : Option Entry) → AreInOrder file entries
    → IsLastUpTo entries place r → IsLastUpTo (entries_of file) place r
found_in_file file entries place None order h =
    All-permutation (λ other. place < other.address) entries (entries_of file)
    (IsPermutation-sym (entries_of file) entries order.permuted) h
found_in_file file entries place (Some e) order h =
    let back = IsPermutation-sym (entries_of file) entries order.permuted in (
      Contains-permutation entries (entries_of file) e back h.0,
      h.1,
      All-permutation (λ other. (place < other.address) ⊎ IsUpTo other e) entries (entries_of file) back h.2,
    )

-- What a place is named, by what is found.
named_found : (file : List ℕ) (entries : List Entry) (place : ℕ) (r : Option Entry) → AreInOrder file entries
    → IsLastUpTo entries place r
    → symbol_at file place ≡ option_map (named_by place) (option_map (symbol_in file) r)
named_found file entries place r order h =
    let rising = (entries_stand file).rising in
    let same : symbols_of file ≡ map (symbol_in file) (entries_of file) = (entries_stand file).same in
    let found : nearest_entry place (entries_of file) ≡ r =
    nearest_found place (entries_of file) r rising (found_in_file file entries place r order h) in
    ap (λ l. option_map (named_by place) (nearest (λ symbol. symbol.address) place l)) same
    ∙ ap (option_map (named_by place)) (nearest-map (symbol_in file) (λ symbol. symbol.address) place (entries_of file))
    ∙ ap (λ o. option_map (named_by place) (option_map (symbol_in file) o)) found

-- A place with no entry has no name.
pub none_named : (file : List ℕ) (held entries : List Entry) (place : ℕ) → AreInOrder file held → entries ≡ held
    → IsLastUpTo entries place None → None ≡ symbol_at file place
none_named file held entries place order same h =
    sym (named_found file held place None order (subst (λ l. IsLastUpTo l place None) same h))

abbrev naming_made : List ℕ → ℕ → Naming
naming_made name distance = record { name = name; distance = distance }

-- A place with an entry has its name.
pub some_named : (file seen : List ℕ) (held entries : List Entry) (place : ℕ) (e : Entry) (name : List ℕ)
    → AreInOrder file held → entries ≡ held → IsLastUpTo entries place (Some e) → seen ≡ file
    → name ≡ take e.length (drop e.start seen)
    → Some (naming_made name (place - e.address)) ≡ symbol_at file place
some_named file seen held entries place e name order same h whole named =
    ap (λ l. Some (naming_made l (place - e.address))) (named ∙ ap (λ l. take e.length (drop e.start l)) whole)
    ∙ sym (named_found file held place (Some e) order (subst (λ l. IsLastUpTo l place (Some e)) same h))

-- The name of an entry that is found lies in the file.
pub lies_within : (file seen : List ℕ) (held entries : List Entry) (place : ℕ) (e : Entry)
    → AreInOrder file held → entries ≡ held → IsLastUpTo entries place (Some e) → seen ≡ file
    → e.start + e.length ≤ length seen
lies_within file seen held entries place e order same h whole =
    let found = found_in_file file held place (Some e) order (subst (λ l. IsLastUpTo l place (Some e)) same h) in
    let P : Entry → Type 0 = λ x. x.start + x.length ≤ length file in
    subst (λ l. e.start + e.length ≤ length l) (sym whole)
    (All-contains P (entries_of file) e (entries_stand file).within found.0)
