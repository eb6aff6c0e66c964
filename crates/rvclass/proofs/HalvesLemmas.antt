-- Even addresses with two bytes have rising places.
use Rattle.std.proofs.Common.{◌≡◌, ℕ, ◌+◌, ◌/◌, ◌%◌, ◌<◌, ◌≤◌, ◌&&◌, Bool, true, false, [], ◌∷◌}
use Rattle.std.proofs.Common.{Option, Some, None, is_some, refl, sym, ◌∙◌, arith}
use Rattle.std.specs.List.{AllByRecursion}
use Rattle.rvclass.proofs.PieceBytesLemmas.{byte_passed, byte_stands}
use Rattle.rvclass.specs.FetchedBytes.{byte_at, has_bytes}
use Rattle.rvclass.specs.Halves.{halves, halves_below}
use Rattle.rvclass.specs.Memory.{Memory, byte_count}
use Rattle.rvclass.specs.Piece.{Piece, IsPiece, byte_in, end_of}

below_rises : (m : Memory) (a b : ℕ) → a ≤ b → halves_below m a ≤ halves_below m b
below_rises [] a b le = omega arith
below_rises (p ∷ ps) a b le = let later = below_rises ps a b le in omega arith

below_all : (m : Memory) (a : ℕ) → halves_below m a ≤ halves m
below_all [] a = omega arith
below_all (p ∷ ps) a = let later = below_all ps a in omega arith

module _ (a : ℕ) (even : a % 2 ≡ 0) where
  -- A piece with a byte after an even address has the byte there too.
  lies_in : (p : Piece) (b : ℕ) → IsPiece p → byte_in p (a + 1) ≡ Some b → (p.base ≤ a) × (a + 2 ≤ end_of p)
  lies_in p b piece e =
      let at = byte_stands p (a + 1) b e in
      let from = at.from in
      let until = at.until in
      let h = piece.even in
      (omega arith, omega arith)

  -- The place of an even address with a byte after it is lower than that of each even address above it.
  pub below_higher : (m : Memory) (b c : ℕ) → AllByRecursion IsPiece m → byte_at m (a + 1) ≡ Some c → a + 2 ≤ b
      → halves_below m a < halves_below m b
  below_higher [] b c each e le = cc
  below_higher (p ∷ ps) b c each e le = go (byte_in p (a + 1)) refl (λ later. below_higher ps b c each.1 later le)
    where
      go : (r : Option ℕ) → byte_in p (a + 1) ≡ r
          → (byte_at ps (a + 1) ≡ Some c → halves_below ps a < halves_below ps b)
          → halves_below (p ∷ ps) a < halves_below (p ∷ ps) b
      go (Some x) is later =
          let (from, until) = lies_in p x each.0 is in
          let h = each.0.even in
          let rest = below_rises ps a b (omega arith) in
          omega arith
      go None is later =
          let rest = later (sym (byte_passed p ps (a + 1) is) ∙ e) in
          omega arith

  -- It is below the number of halfwords.
  pub below_halves : (m : Memory) (c : ℕ) → AllByRecursion IsPiece m → byte_at m (a + 1) ≡ Some c
      → halves_below m a < halves m
  below_halves [] c each e = cc
  below_halves (p ∷ ps) c each e = go (byte_in p (a + 1)) refl (λ later. below_halves ps c each.1 later)
    where
      go : (r : Option ℕ) → byte_in p (a + 1) ≡ r → (byte_at ps (a + 1) ≡ Some c → halves_below ps a < halves ps)
          → halves_below (p ∷ ps) a < halves (p ∷ ps)
      go (Some x) is later =
          let (from, until) = lies_in p x each.0 is in
          let h = each.0.even in
          let rest = below_all ps a in
          omega arith
      go None is later =
          let rest = later (sym (byte_passed p ps (a + 1) is) ∙ e) in
          omega arith

-- There are at most half as many halfwords as bytes.
pub halves_few : (m : Memory) → halves m ≤ byte_count m / 2
halves_few [] = omega arith
halves_few (p ∷ ps) = let later = halves_few ps in omega arith

-- The second of two bytes.
pub second_byte : (m : Memory) (addr : ℕ) → has_bytes m addr 2 ≡ true → (c : ℕ) × (byte_at m (addr + 1) ≡ Some c)
second_byte m addr e = go (is_some (byte_at m addr)) (byte_at m (addr + 1)) e
  where
    go : (x : Bool) (r : Option ℕ) → (x && (is_some r && true)) ≡ true → (c : ℕ) × (r ≡ Some c)
    go true (Some c) h = (c, refl)
    go true None h = cc
    go false r h = cc
