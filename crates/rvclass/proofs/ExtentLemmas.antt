-- Where the pieces of an image end.
use Rattle.std.proofs.Common.{◌≡◌, ℕ, zero, suc, ◌+◌, ◌^◌, ◌<◌, [], ◌∷◌, Option, IfSome, option_map, subst, sym}
use Rattle.std.specs.List.{AllByRecursion, slice_get}
use Rattle.rvclass.proofs.PlacedLemmas.{each_placed}
use Rattle.rvclass.specs.Memory.{Memory, in_order}
use Rattle.rvclass.specs.Piece.{IsPiece, extent_of}
use Rattle.rvclass.specs.Image.{Image, IsImage}

each_in_order : (m : Memory) → AllByRecursion IsPiece m → AllByRecursion IsPiece (in_order m)
each_in_order [] each = tt
each_in_order (first ∷ others) each = each_placed IsPiece first others each.0 each.1

ends_below : (ps : Memory) (n : ℕ) → AllByRecursion IsPiece ps
    → IfSome (option_map extent_of (slice_get ps n)) (λ extent. extent.0 + extent.1 < 2 ^ 64)
ends_below [] n each = tt
ends_below (p ∷ ps) zero each = each.0.below
ends_below (p ∷ ps) (suc n) each = ends_below ps n each.1

pub extent_within : (m : Image) (n : ℕ) (r : Option (ℕ × ℕ)) → IsImage m
    → r ≡ option_map extent_of (slice_get (in_order m) n) → IfSome r (λ extent. extent.0 + extent.1 < 2 ^ 64)
extent_within m n r image is =
    subst (λ r. IfSome r (λ (extent : ℕ × ℕ). extent.0 + extent.1 < 2 ^ 64)) (sym is)
    (ends_below (in_order m) n (each_in_order m image.each))
