-- Pieces overlap where both have a byte.
use Rattle.std.proofs.Common.{◌≡◌, ℕ, ◌<◌, true, Option, Some, None, IsSome, is_some, max, min}
use Rattle.std.proofs.Common.{refl, ap, arith}
use Rattle.std.proofs.lemmas.Bool.Decides.{nat_tests}
use Rattle.rvclass.proofs.PieceBytesLemmas.{Stands, byte_stands, byte_there}
use Rattle.rvclass.specs.Piece.{Piece, byte_in, end_of, overlap}

-- Pieces that overlap have a byte at the higher base.
pub overlap_somewhere : (p q : Piece) → overlap p q ≡ true
    → (addr : ℕ) × IsSome (byte_in p addr) × IsSome (byte_in q addr)
overlap_somewhere p q e =
    let h : max p.base q.base < min (end_of p) (end_of q) = grind (arith, nat_tests) in (
      max p.base q.base,
      ap is_some (byte_there p (max p.base q.base) (omega arith) (omega (arith, h))),
      ap is_some (byte_there q (max p.base q.base) (omega arith) (omega (arith, h))),
    )

has_stands : (p : Piece) (addr : ℕ) → IsSome (byte_in p addr) → Stands p addr
has_stands p addr e = go (byte_in p addr) refl e
  where
    go : (r : Option ℕ) → byte_in p addr ≡ r → IsSome r → Stands p addr
    go None is h = cc
    go (Some b) is h = byte_stands p addr b is

-- Pieces with a byte at one address overlap.
pub overlap_both : (p q : Piece) → (addr : ℕ) × IsSome (byte_in p addr) × IsSome (byte_in q addr)
    → overlap p q ≡ true
overlap_both p q (addr, in_p, in_q) =
    let a = has_stands p addr in_p in
    let b = has_stands q addr in_q in
    let from_p = a.from in
    let until_p = a.until in
    let from_q = b.from in
    let until_q = b.until in
    let h : max p.base q.base < min (end_of p) (end_of q) = omega arith in
    grind (arith, nat_tests)
