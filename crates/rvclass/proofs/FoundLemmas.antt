-- What is read of a part.
use Rattle.std.proofs.Common.{◌≡◌, ℕ, ◌+◌, ◌-◌, ◌%◌, ◌^◌, ◌<◌, ◌≤◌, List, Option, Some, None, length, slice_index_or}
use Rattle.std.proofs.Common.{IfSome, sym, ap, ◌∙◌, subst}
use Rattle.rvclass.proofs.PieceBytesLemmas.{bounds_at, part_byte, search_last}
use Rattle.rvclass.proofs.FetchedLemmas.{fetched_word}
use Rattle.rvclass.specs.FetchedBytes.{byte_at}
use Rattle.rvclass.specs.Piece.{byte_in, piece_at}
use Rattle.rvclass.specs.declared.part.Part.{Part}
use Rattle.rvclass.specs.steps.HeldBytes.{held_bytes}
use Rattle.rvclass.specs.steps.Parts.{AreSearchable, piece_of, pieces_of}
use Rattle.rvclass.specs.steps.Search.{HaveWord, IsCountUpTo}
use Rattle.rvclass.specs.steps.Words.{half_from, word_in}

-- The part at a place, and its bytes.
pub record IsAt (parts : List Part) (place : ℕ) (part : Part) (bytes : List ℕ) : Type 0 where
  pub searchable : AreSearchable parts
  pub inside : place < length parts
  pub is : part ≡ slice_index_or parts place part
  pub has : bytes ≡ held_bytes part.bytes

module _ (parts : List Part) (addr place : ℕ) (part : Part) (bytes : List ℕ) (f : IsAt parts place part bytes) where
  -- Its bytes end below 2^64.
  pub at_below : part.base + length bytes < 2 ^ 64
  at_below =
      let bounds = bounds_at parts place part f.searchable.each f.inside in
      let below = subst (λ (p : Part). p.base + length (held_bytes p.bytes) < 2 ^ 64) (sym f.is) bounds.below in
      subst (λ l. part.base + length l < 2 ^ 64) (sym f.has) below

  -- A word of it is one of all.
  pub at_word : (r : Option ℕ) → r ≡ word_in (piece_at part.base bytes) addr
      → IfSome r (λ word. word % 2 ^ 16 ≡ half_from bytes (addr - part.base))
      → IfSome r (λ word. HaveWord (pieces_of parts) addr word)
  at_word None e low = tt
  at_word (Some w) e low = λ m all. fetched_word m (piece_of part) addr w
      (λ a b h. all a b (part_byte parts place part a b f.searchable.apart f.inside
      (sym (ap (λ (p : Part). byte_in (piece_of p) a) f.is) ∙ h)))
      (sym (e ∙ ap (λ l. word_in (piece_at part.base l) addr) f.has))
      (low ∙ ap (λ l. half_from l (addr - part.base)) f.has)

-- The byte of the part before the place where a search ended is that of all.
pub found_byte : (parts : List Part) (addr count : ℕ) (part : Part) (bytes : List ℕ) → IsAt parts (count - 1) part bytes
    → IsCountUpTo addr parts count → ¬ (count ≡ 0) → count ≤ length parts
    → (r : Option ℕ) → r ≡ byte_in (piece_at part.base bytes) addr → r ≡ byte_at (pieces_of parts) addr
found_byte parts addr count part bytes f ended some few r e =
    e ∙ ap (λ l. byte_in (piece_at part.base l) addr) f.has ∙ ap (λ (p : Part). byte_in (piece_of p) addr) f.is
    ∙ search_last parts addr count part f.searchable ended some few
