-- The pieces of a memory in order.
use Rattle.std.proofs.Common.{◌≡◌, ℕ, zero, suc, ◌-◌, ◌<◌, ◌≤◌, List, [], ◌∷◌, Option, Some, length, refl, sym, ap}
use Rattle.std.proofs.Common.{◌∙◌, option_map, arith}
use Rattle.std.proofs.lemmas.Option.{slice_get-map}
use Rattle.std.specs.List.{slice_get}
use Rattle.rvclass.proofs.PlacedLemmas.{part_in, placed_in}
use Rattle.rvclass.specs.Memory.{placed, rank_of}
use Rattle.rvclass.specs.declared.part.Part.{Part}
use Rattle.rvclass.specs.steps.Parts.{AreKept, piece_of, pieces_of}
use Rattle.rvclass.specs.steps.Search.{IsCountUpTo}

get_before : (parts : List Part) (k n : ℕ) (part : Part) → k ≤ length parts → n < k
    → slice_get (part_in k part parts) n ≡ slice_get parts n
get_before parts zero n part few less = absurd (omega (arith, less))
get_before [] (suc k) n part few less = absurd (omega (arith, few))
get_before (q ∷ qs) (suc k) zero part few less = refl
get_before (q ∷ qs) (suc k) (suc n) part few less =
    get_before qs k n part (omega (arith, few)) (omega (arith, less))

get_at : (parts : List Part) (k : ℕ) (part : Part) → k ≤ length parts → slice_get (part_in k part parts) k ≡ Some part
get_at [] zero part few = refl
get_at (q ∷ qs) zero part few = refl
get_at [] (suc k) part few = absurd (omega (arith, few))
get_at (q ∷ qs) (suc k) part few = get_at qs k part (omega (arith, few))

get_after : (parts : List Part) (k n : ℕ) (part : Part) → k ≤ length parts → k ≤ n
    → slice_get (part_in k part parts) (suc n) ≡ slice_get parts n
get_after [] zero n part few more = refl
get_after (q ∷ qs) zero n part few more = refl
get_after [] (suc k) n part few more = absurd (omega (arith, few))
get_after (q ∷ qs) (suc k) zero part few more = absurd (omega (arith, more))
get_after (q ∷ qs) (suc k) (suc n) part few more =
    get_after qs k n part (omega (arith, few)) (omega (arith, more))

module _ (parts : List Part) (k : ℕ) (part : Part) (kept : AreKept parts) (ranked : part.rank ≡ rank_of (piece_of part))
    (found : IsCountUpTo part.rank parts k) (few : k ≤ length parts) where
  in_placed : (n : ℕ) (r : Option Part) → slice_get (part_in k part parts) n ≡ r
      → slice_get (placed (piece_of part) (pieces_of parts)) n ≡ option_map piece_of r
  in_placed n r is =
      ap (λ l. slice_get l n) (sym (placed_in parts k part kept ranked found))
      ∙ slice_get-map piece_of (part_in k part parts) n ∙ ap (option_map piece_of) is

  -- Before the place where a piece is put.
  pub order_before : (n : ℕ) → n < k
      → slice_get (placed (piece_of part) (pieces_of parts)) n ≡ slice_get (pieces_of parts) n
  order_before n less =
      in_placed n (slice_get parts n) (get_before parts k n part few less) ∙ sym (slice_get-map piece_of parts n)

  -- There, and after it.
  pub order_at : slice_get (placed (piece_of part) (pieces_of parts)) k ≡ Some (piece_of part)
  order_at = in_placed k (Some part) (get_at parts k part few)

  pub order_after : (n : ℕ) → k < n
      → slice_get (placed (piece_of part) (pieces_of parts)) n ≡ slice_get (pieces_of parts) (n - 1)
  order_after zero more = absurd (omega (arith, more))
  order_after (suc n) more =
      let same : suc n - 1 ≡ n = omega arith in
      rw same
      (in_placed (suc n) (slice_get parts n) (get_after parts k n part few (omega (arith, more)))
      ∙ sym (slice_get-map piece_of parts n))
