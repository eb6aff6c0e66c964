-- A memory with a piece that is cut in two is a memory.
use Rattle.std.proofs.Common.{◌≡◌, ℕ, suc, ◌+◌, ◌%◌, ◌≤◌, ◌||◌, false, List, [], ◌∷◌, ◌++◌}
use Rattle.std.proofs.Common.{length, length-append, max, min, refl, ap, arith}
use Rattle.std.proofs.lemmas.Bool.Decides.{nat_tests}
use Rattle.std.specs.List.{AllByRecursion}
use Rattle.rvclass.proofs.PieceBytesLemmas.{or_false}
use Rattle.rvclass.proofs.PlacedLemmas.{both_false, overlap_sym}
use Rattle.rvclass.specs.Memory.{AreApart, IsMemory, Memory, byte_count, overlaps}
use Rattle.rvclass.specs.Piece.{Piece, IsPiece, end_of, overlap, piece_at}

module _ (base : ℕ) (left right : List ℕ) (even : length left % 2 ≡ 0) where
  abbrev whole : Piece
  whole = piece_at base (left ++ right)

  abbrev first : Piece
  first = piece_at base left

  abbrev second : Piece
  second = piece_at (base + length left) right

  first_apart : (p : Piece) → overlap p whole ≡ false → overlap p first ≡ false
  first_apart p e =
      let long = length-append left right in
      let h : min (end_of p) (end_of whole) ≤ max p.base base = grind (arith, nat_tests) in
      let k : min (end_of p) (base + length left) ≤ max p.base base = omega (arith, h, long) in
      grind (arith, nat_tests)

  second_apart : (p : Piece) → overlap p whole ≡ false → overlap p second ≡ false
  second_apart p e =
      let long = length-append left right in
      let h : min (end_of p) (end_of whole) ≤ max p.base base = grind (arith, nat_tests) in
      let k : min (end_of p) (base + length left + length right) ≤ max p.base (base + length left) =
      omega (arith, h, long) in
      grind (arith, nat_tests)

  parts_apart : overlap first second ≡ false
  parts_apart =
      let k : min (base + length left) (base + length left + length right) ≤ max base (base + length left) =
      omega arith in
      grind (arith, nat_tests)

  first_of_all : (ps : Memory) → overlaps whole ps ≡ false → overlaps first ps ≡ false
  first_of_all [] e = refl
  first_of_all (p ∷ ps) e =
      let both = or_false (overlap whole p) (overlaps whole ps) e in
      both_false (overlap first p) (overlaps first ps)
      (overlap_sym p first (first_apart p (overlap_sym whole p both.0))) (first_of_all ps both.1)

  second_of_all : (ps : Memory) → overlaps whole ps ≡ false → overlaps second ps ≡ false
  second_of_all [] e = refl
  second_of_all (p ∷ ps) e =
      let both = or_false (overlap whole p) (overlaps whole ps) e in
      both_false (overlap second p) (overlaps second ps)
      (overlap_sym p second (second_apart p (overlap_sym whole p both.0))) (second_of_all ps both.1)

  module _ (after : Memory) where
    others_apart : (p : Piece) (before : Memory) → overlaps p (before ++ whole ∷ after) ≡ false
        → overlaps p (before ++ first ∷ second ∷ after) ≡ false
    others_apart p [] e =
        let both = or_false (overlap p whole) (overlaps p after) e in
        both_false (overlap p first) (overlap p second || overlaps p after) (first_apart p both.0)
        (both_false (overlap p second) (overlaps p after) (second_apart p both.0) both.1)
    others_apart p (q ∷ qs) e =
        let both = or_false (overlap p q) (overlaps p (qs ++ whole ∷ after)) e in
        both_false (overlap p q) (overlaps p (qs ++ first ∷ second ∷ after)) both.0 (others_apart p qs both.1)

    all_apart : (before : Memory) → AreApart (before ++ whole ∷ after) → AreApart (before ++ first ∷ second ∷ after)
    all_apart [] apart = (
      both_false (overlap first second) (overlaps first after) parts_apart (first_of_all after apart.0),
      (second_of_all after apart.0, apart.1),
    )
    all_apart (q ∷ qs) apart = (others_apart q qs apart.0, all_apart qs apart.1)

    all_pieces : (before : Memory) → AllByRecursion IsPiece (before ++ whole ∷ after)
        → AllByRecursion IsPiece (before ++ first ∷ second ∷ after)
    all_pieces [] each =
        let long = length-append left right in
        let two = each.0.even in
        let small = each.0.small in
        let below = each.0.below in (
          record {
            even = two;
            small = omega (arith, long, small);
            below = omega (arith, long, below);
          },
          (
            record {
              even = omega (arith, two, even);
              small = omega (arith, long, small);
              below = omega (arith, long, below);
            },
            each.1,
          ),
        )
    all_pieces (q ∷ qs) each = (each.0, all_pieces qs each.1)

    all_bytes : (before : Memory) → byte_count (before ++ first ∷ second ∷ after) ≡ byte_count (before ++ whole ∷ after)
    all_bytes [] = let long = length-append left right in omega (arith, long)
    all_bytes (q ∷ qs) = ap (λ n. length q.bytes + n) (all_bytes qs)

    one_more : (before : Memory) → length (before ++ first ∷ second ∷ after) ≡ suc (length (before ++ whole ∷ after))
    one_more [] = refl
    one_more (q ∷ qs) = ap suc (one_more qs)

    -- The cut pieces are legal where there may be one piece more.
    pub cut_legal : (before : Memory) → IsMemory (before ++ whole ∷ after)
        → length (before ++ whole ∷ after) + 1 ≤ 1024 → IsMemory (before ++ first ∷ second ∷ after)
    cut_legal before memory few =
        let bytes = all_bytes before in
        let small = memory.small in
        let more = one_more before in
        record {
          each = all_pieces before memory.each;
          apart = all_apart before memory.apart;
          small = omega (arith, bytes, small);
          few = omega (arith, more, few);
        }
