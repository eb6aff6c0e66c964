-- Parts with one more, and what stays true of them.
use Rattle.std.proofs.Common.{◌≡◌, ℕ, zero, suc, ◌+◌, ◌^◌, ◌<◌, ◌≤◌, ◌||◌, Bool, true, false, cond, List, [], ◌∷◌, ◌++◌}
use Rattle.std.proofs.Common.{length, slice_index_or, take, drop, nat_lt, min, max, refl, sym, ap, ◌∙◌, subst, arith}
use Rattle.std.proofs.lemmas.Bool.Decides.{nat_tests}
use Rattle.std.specs.List.{AllByRecursion}
use Rattle.rvclass.proofs.PieceBytesLemmas.{or_false}
use Rattle.rvclass.specs.Memory.{AreApart, IsMemory, Memory, byte_count, lowest_of, overlaps, placed, rank_of}
use Rattle.rvclass.specs.Memory.{with_piece}
use Rattle.rvclass.specs.Piece.{Piece, IsPiece, end_of, overlap}
use Rattle.rvclass.specs.declared.part.Part.{Part}
use Rattle.rvclass.specs.steps.Kept.{IsKept, kept_pieces}
use Rattle.rvclass.specs.steps.Parts.{AreKept, piece_of, pieces_of}
use Rattle.rvclass.specs.steps.Search.{IsCountUpTo}

-- The parts with one more at a place.
abbrev pub part_in : ℕ → Part → List Part → List Part
part_in k part parts = take k parts ++ part ∷ drop k parts

all_from : (P : Part → Type 0) (parts : List Part) (d : Part)
    → ((k : ℕ) → k < length parts → P (slice_index_or parts k d)) → AllByRecursion P parts
all_from P [] d each = tt
all_from P (p ∷ ps) d each =
    (each 0 (omega arith), all_from P ps d (λ k inside. each (suc k) (omega (arith, inside))))

all_in : (P : Part → Type 0) (parts : List Part) (k : ℕ) (part : Part) → AllByRecursion P parts → P part
    → AllByRecursion P (part_in k part parts)
all_in P [] zero part all one = (one, tt)
all_in P [] (suc k) part all one = (one, tt)
all_in P (p ∷ ps) zero part all one = (one, all)
all_in P (p ∷ ps) (suc k) part all one = (all.0, all_in P ps k part all.1 one)

-- The count of the parts after the first.
count_after : (rank : ℕ) (q : Part) (qs : List Part) (k : ℕ) → IsCountUpTo rank (q ∷ qs) (suc k)
    → IsCountUpTo rank qs k
count_after rank q qs k found = record {
  low = λ j d front inside. found.low (suc j) d (omega (arith, front)) (omega (arith, inside));
  high = λ j d behind inside. found.high (suc j) d (omega (arith, behind)) (omega (arith, inside));
}

-- A part with its rank, put after those of at most this rank, leaves the parts in order.
pub kept_in : (parts : List Part) (k : ℕ) (part : Part) → AreKept parts → part.rank ≡ rank_of (piece_of part)
    → IsCountUpTo part.rank parts k → AreKept (part_in k part parts)
kept_in [] zero part kept ranked found = (ranked, tt, tt)
kept_in [] (suc k) part kept ranked found = (ranked, tt, tt)
kept_in (q ∷ qs) zero part kept ranked found = (
  ranked,
  all_from (λ other. part.rank ≤ other.rank) (q ∷ qs) part
      (λ k inside. let h = found.high k part (omega arith) inside in omega (arith, h)),
  kept,
)
kept_in (q ∷ qs) (suc k) part kept ranked found =
    let low : q.rank ≤ part.rank = found.low 0 part (omega arith) (omega arith) in (
      kept.0,
      all_in (λ other. q.rank ≤ other.rank) qs k part kept.1 low,
      kept_in qs k part kept.2 ranked (count_after part.rank q qs k found),
    )

-- Its piece is then in its place among the pieces.
pub placed_in : (parts : List Part) (k : ℕ) (part : Part) → AreKept parts → part.rank ≡ rank_of (piece_of part)
    → IsCountUpTo part.rank parts k → pieces_of (part_in k part parts) ≡ placed (piece_of part) (pieces_of parts)
placed_in [] zero part kept ranked found = refl
placed_in [] (suc k) part kept ranked found = refl
placed_in (q ∷ qs) zero part kept ranked found =
    let high : part.rank < q.rank = found.high 0 part (omega arith) (omega arith) in
    let at = kept.0 in
    let less : rank_of (piece_of part) < rank_of (piece_of q) = omega (arith, high, at, ranked) in
    let test : nat_lt (rank_of (piece_of part)) (rank_of (piece_of q)) ≡ true = grind (arith, nat_tests) in
    sym (ap (λ b. cond b (piece_of part ∷ piece_of q ∷ pieces_of qs)
    (piece_of q ∷ placed (piece_of part) (pieces_of qs))) test)
placed_in (q ∷ qs) (suc k) part kept ranked found =
    let low : q.rank ≤ part.rank = found.low 0 part (omega arith) (omega arith) in
    let at = kept.0 in
    let more : rank_of (piece_of q) ≤ rank_of (piece_of part) = omega (arith, low, at, ranked) in
    let test : nat_lt (rank_of (piece_of part)) (rank_of (piece_of q)) ≡ false = grind (arith, nat_tests) in
    ap (λ l. piece_of q ∷ l) (placed_in qs k part kept.2 ranked (count_after part.rank q qs k found))
    ∙ sym (ap (λ b. cond b (piece_of part ∷ piece_of q ∷ pieces_of qs)
    (piece_of q ∷ placed (piece_of part) (pieces_of qs))) test)

-- What holds of both outcomes of a test holds.
pub either : {X : Type 0} (P : X → Type 0) (b : Bool) (x y : X) → P x → P y → P (cond b x y)
either P true x y at_x at_y = at_x
either P false x y at_x at_y = at_y

-- What holds where the piece is put before the first, and where it is put after it.
pub before_or_after : (P : Memory → Type 0) (p q : Piece) (qs : Memory) → P (p ∷ q ∷ qs) → P (q ∷ placed p qs)
    → P (placed p (q ∷ qs))
before_or_after P p q qs first after =
    either P (nat_lt (rank_of p) (rank_of q)) (p ∷ q ∷ qs) (q ∷ placed p qs) first after

pub each_placed : (P : Piece → Type 0) (p : Piece) (ps : Memory) → P p → AllByRecursion P ps
    → AllByRecursion P (placed p ps)
each_placed P p [] one all = (one, tt)
each_placed P p (q ∷ qs) one all =
    before_or_after (AllByRecursion P) p q qs (one, all) (all.0, each_placed P p qs one all.1)

pub overlap_sym : (p q : Piece) → overlap p q ≡ false → overlap q p ≡ false
overlap_sym p q e =
    let h : min (end_of p) (end_of q) ≤ max p.base q.base = grind (arith, nat_tests) in
    let k : min (end_of q) (end_of p) ≤ max q.base p.base = omega (arith, h) in
    grind (arith, nat_tests)

pub both_false : (a b : Bool) → a ≡ false → b ≡ false → (a || b) ≡ false
both_false a b e f = λ i. e i || f i

overlaps_placed : (p q : Piece) (qs : Memory) → overlap q p ≡ false → overlaps q qs ≡ false
    → overlaps q (placed p qs) ≡ false
overlaps_placed p q [] one all = both_false (overlap q p) false one refl
overlaps_placed p q (r ∷ rs) one all =
    let both = or_false (overlap q r) (overlaps q rs) all in
    before_or_after (λ l. overlaps q l ≡ false) p r rs (both_false (overlap q p) (overlaps q (r ∷ rs)) one all)
    (both_false (overlap q r) (overlaps q (placed p rs)) both.0 (overlaps_placed p q rs one both.1))

pub apart_placed : (p : Piece) (ps : Memory) → AreApart ps → overlaps p ps ≡ false → AreApart (placed p ps)
apart_placed p [] apart none = (refl, tt)
apart_placed p (q ∷ qs) apart none =
    let both = or_false (overlap p q) (overlaps p qs) none in
    before_or_after AreApart p q qs (none, apart)
    (overlaps_placed p q qs (overlap_sym p q both.0) apart.0, apart_placed p qs apart.1 both.1)

pub count_placed : (p : Piece) (ps : Memory) → byte_count (placed p ps) ≡ length p.bytes + byte_count ps
count_placed p [] = refl
count_placed p (q ∷ qs) =
    let later = count_placed p qs in
    before_or_after (λ l. byte_count l ≡ length p.bytes + (length q.bytes + byte_count qs)) p q qs refl
    (omega (arith, later))

pub length_placed : (p : Piece) (ps : Memory) → length (placed p ps) ≡ suc (length ps)
length_placed p [] = refl
length_placed p (q ∷ qs) =
    before_or_after (λ l. length l ≡ suc (suc (length qs))) p q qs refl (ap suc (length_placed p qs))

-- There are as many pieces as parts.
pub pieces_length : (parts : List Part) → length (pieces_of parts) ≡ length parts
pieces_length [] = refl
pieces_length (p ∷ ps) = ap suc (pieces_length ps)

pub lowest_placed : (base : ℕ) (p : Piece) (ps : Memory) → lowest_of base (placed p ps) ≡ min p.base (lowest_of base ps)
lowest_placed base p [] = refl
lowest_placed base p (q ∷ qs) =
    let later = lowest_placed base p qs in
    let swap : min q.base (min p.base (lowest_of base qs)) ≡ min p.base (min q.base (lowest_of base qs)) =
    omega arith in
    before_or_after (λ l. lowest_of base l ≡ min p.base (min q.base (lowest_of base qs))) p q qs refl
    (ap (min q.base) later ∙ swap)

-- A piece that overlaps none, and that the limits allow, makes a memory of a memory.
pub memory_with : (first p : Piece) (others : Memory) → IsMemory (first ∷ others) → IsPiece p
    → overlap p first ≡ false → overlaps p others ≡ false → byte_count (first ∷ others) + length p.bytes ≤ 2 ^ 26
    → length others + 2 ≤ 1024 → IsMemory (with_piece (first ∷ others) p)
memory_with first p others m piece one all small few =
    let count = count_placed p others in
    let long = length_placed p others in
    record {
      each = (m.each.0, each_placed IsPiece p others piece m.each.1);
      apart = (overlaps_placed p first others (overlap_sym p first one) m.apart.0, apart_placed p others m.apart.1 all);
      small = omega (arith, count, small);
      few = omega (arith, long, few);
    }

-- What a memory keeps when a piece is added.
pub kept_with : (base : ℕ) (bytes : List ℕ) (windows : ℕ) (others : List Part) (lowest count : ℕ) (new : List Part)
    (p : Piece) (low l : ℕ) → IsKept base bytes windows others lowest count → AreKept new
    → pieces_of new ≡ placed p (pieces_of others) → IsMemory (with_piece (kept_pieces base bytes others) p)
    → low ≡ min lowest p.base → l ≡ length p.bytes → IsKept base bytes windows new low (count + l)
kept_with base bytes windows others lowest count new p low l kept in_order is memory lower long =
    let first : Piece = record { base = base; bytes = bytes } in
    let at_low = kept.low in
    let all = kept.all in
    let sum = count_placed p (pieces_of others) in
    let below = lowest_placed base p (pieces_of others) in
    let swap : min lowest p.base ≡ min p.base lowest = omega arith in
    record {
      memory = subst (λ ps. IsMemory (first ∷ ps)) (sym is) memory;
      few = kept.few;
      parts = in_order;
      low = lower ∙ swap ∙ ap (min p.base) at_low ∙ sym below ∙ sym (ap (lowest_of base) is);
      all =
          let now : count + l ≡ length bytes + byte_count (placed p (pieces_of others)) =
          omega (arith, all, sum, long) in
          now ∙ sym (ap (λ ps. length bytes + byte_count ps) is);
    }
