-- Which piece of a memory has the byte at an address.
use Rattle.std.proofs.Common.{◌≡◌, ℕ, zero, suc, ◌+◌, ◌-◌, ◌^◌, ◌<◌, ◌≤◌, Bool, true, false, List, [], ◌∷◌}
use Rattle.std.proofs.Common.{Option, Some, None, IfSome, length, slice_index, slice_index_or, nat_lt, min, max, refl}
use Rattle.std.proofs.Common.{sym, ap, ◌∙◌}
use Rattle.std.proofs.Common.{◌||◌, subst, inl, inr, arith}
use Rattle.std.proofs.lemmas.Bool.{cases_Bool}
use Rattle.std.proofs.lemmas.Bool.Decides.{nat_tests}
use Rattle.std.specs.List.{AllByRecursion}
use Rattle.rvclass.proofs.OrderLemmas.{ranks_rise}
use Rattle.rvclass.specs.FetchedBytes.{byte_at, or_else}
use Rattle.rvclass.specs.Memory.{AreApart, overlaps, rank_of}
use Rattle.rvclass.specs.Piece.{Piece, IsPiece, byte_in, end_of, overlap}
use Rattle.rvclass.specs.declared.part.Part.{Part}
use Rattle.rvclass.specs.steps.Parts.{AreKept, AreSearchable, piece_of, pieces_of}
use Rattle.rvclass.specs.steps.Search.{IsCountUpTo}

-- A piece has a byte at an address.
pub record Stands (p : Piece) (addr : ℕ) : Type 0 where
  pub from : p.base ≤ addr
  pub until : addr < end_of p

pub byte_stands : (p : Piece) (addr b : ℕ) → byte_in p addr ≡ Some b → Stands p addr
byte_stands p addr b e = record { from = grind (arith, nat_tests); until = grind (arith, nat_tests) }

pub byte_there : (p : Piece) (addr : ℕ) → p.base ≤ addr → addr < end_of p
    → byte_in p addr ≡ Some (slice_index p.bytes (addr - p.base))
byte_there p addr from until = grind (arith, nat_tests)

pub byte_none : (p : Piece) (addr : ℕ) → (Stands p addr → ⊥) → byte_in p addr ≡ None
byte_none p addr away = go (byte_in p addr) refl
  where
    go : (r : Option ℕ) → byte_in p addr ≡ r → r ≡ None
    go (Some b) e = absurd (away (byte_stands p addr b e))
    go None e = refl

-- Two pieces with a byte at one address overlap.
pub both_stand : (p q : Piece) (addr : ℕ) → overlap p q ≡ false → Stands p addr → Stands q addr → ⊥
both_stand p q addr apart at_p at_q =
    let h : min (end_of p) (end_of q) ≤ max p.base q.base = grind (arith, nat_tests) in
    let a = at_p.from in
    let b = at_p.until in
    let c = at_q.from in
    let d = at_q.until in
    omega arith

pub or_false : (a b : Bool) → (a || b) ≡ false → (a ≡ false) × (b ≡ false)
or_false false b e = (refl, e)
or_false true b e = cc

none_in : (p : Piece) (ps : List Piece) (addr b : ℕ) → overlaps p ps ≡ false → byte_at ps addr ≡ Some b
    → Stands p addr → ⊥
none_in p [] addr b apart e at = cc
none_in p (q ∷ qs) addr b apart e at =
    let both = or_false (overlap p q) (overlaps p qs) apart in
    go (byte_in q addr) refl both.0 (λ later. none_in p qs addr b both.1 later at)
  where
    go : (r : Option ℕ) → byte_in q addr ≡ r → overlap p q ≡ false → (byte_at qs addr ≡ Some b → ⊥) → ⊥
    go (Some x) is first later = both_stand p q addr first at (byte_stands q addr x is)
    go None is first later = later (sym (ap (λ o. or_else o (byte_at qs addr)) is) ∙ e)

-- A byte of the pieces after the first is a byte of all.
pub byte_behind : (p : Piece) (ps : List Piece) (addr b : ℕ) → overlaps p ps ≡ false → byte_at ps addr ≡ Some b
    → byte_at (p ∷ ps) addr ≡ Some b
byte_behind p ps addr b apart e =
    ap (λ o. or_else o (byte_at ps addr)) (byte_none p addr (none_in p ps addr b apart e)) ∙ e

-- A byte of the first piece is a byte of all.
pub byte_first : (p : Piece) (ps : List Piece) (addr b : ℕ) → byte_in p addr ≡ Some b → byte_at (p ∷ ps) addr ≡ Some b
byte_first p ps addr b e = ap (λ o. or_else o (byte_at ps addr)) e

-- Where the first piece has none, the byte is that of the others.
pub byte_passed : (p : Piece) (ps : List Piece) (addr : ℕ) → byte_in p addr ≡ None
    → byte_at (p ∷ ps) addr ≡ byte_at ps addr
byte_passed p ps addr e = ap (λ o. or_else o (byte_at ps addr)) e

-- A byte stands below the last address.
pub byte_below : (m : List Piece) (addr : ℕ) (r : Option ℕ) → AllByRecursion IsPiece m → r ≡ byte_at m addr
    → IfSome r (λ _. addr + 1 < 2 ^ 64)
byte_below m addr None each e = tt
byte_below [] addr (Some b) each e = cc
byte_below (p ∷ ps) addr (Some b) each e = go (byte_in p addr) refl (byte_below ps addr (Some b) each.1)
  where
    go : (r : Option ℕ) → byte_in p addr ≡ r → (Some b ≡ byte_at ps addr → addr + 1 < 2 ^ 64) → addr + 1 < 2 ^ 64
    go (Some x) is later =
        let at = byte_stands p addr x is in
        let until = at.until in
        let below = each.0.below in
        omega (arith, until, below)
    go None is later = later (e ∙ byte_passed p ps addr is)

-- A byte of a part is a byte of all.
pub part_byte : (parts : List Part) (k : ℕ) (d : Part) (addr b : ℕ) → AreApart (pieces_of parts) → k < length parts
    → byte_in (piece_of (slice_index_or parts k d)) addr ≡ Some b → byte_at (pieces_of parts) addr ≡ Some b
part_byte [] k d addr b apart inside e = absurd (omega (arith, inside))
part_byte (p ∷ ps) zero d addr b apart inside e = byte_first (piece_of p) (pieces_of ps) addr b e
part_byte (p ∷ ps) (suc k) d addr b apart inside e =
    byte_behind (piece_of p) (pieces_of ps) addr b apart.0 (part_byte ps k d addr b apart.1 (omega (arith, inside)) e)

abbrev IsByteOf : List Part → Part → ℕ → ℕ → Type 0
IsByteOf parts d addr b =
    (k : ℕ) × (k < length parts) × (byte_in (piece_of (slice_index_or parts k d)) addr ≡ Some b)

-- A byte of all is a byte of one part.
byte_of_part : (parts : List Part) (d : Part) (addr b : ℕ) → byte_at (pieces_of parts) addr ≡ Some b
    → IsByteOf parts d addr b
byte_of_part [] d addr b e = cc
byte_of_part (p ∷ ps) d addr b e = go (byte_in (piece_of p) addr) refl (λ later. byte_of_part ps d addr b later)
  where
    go : (r : Option ℕ) → byte_in (piece_of p) addr ≡ r
        → (byte_at (pieces_of ps) addr ≡ Some b → IsByteOf ps d addr b) → IsByteOf (p ∷ ps) d addr b
    go (Some x) is later = (0, omega arith, is ∙ sym (ap (λ o. or_else o (byte_at (pieces_of ps) addr)) is) ∙ e)
    go None is later =
        let r = later (sym (ap (λ o. or_else o (byte_at (pieces_of ps) addr)) is) ∙ e) in
        (suc r.0, omega (arith, r.1), r.2)

apart_from : (p : Part) (ps : List Part) (k : ℕ) (d : Part) → overlaps (piece_of p) (pieces_of ps) ≡ false
    → k < length ps → overlap (piece_of p) (piece_of (slice_index_or ps k d)) ≡ false
apart_from p [] k d apart inside = absurd (omega (arith, inside))
apart_from p (q ∷ qs) zero d apart inside =
    (or_false (overlap (piece_of p) (piece_of q)) (overlaps (piece_of p) (pieces_of qs)) apart).0
apart_from p (q ∷ qs) (suc k) d apart inside =
    apart_from p qs k d (or_false (overlap (piece_of p) (piece_of q)) (overlaps (piece_of p) (pieces_of qs)) apart).1
    (omega (arith, inside))

-- Two parts do not overlap.
apart_at : (parts : List Part) (i j : ℕ) (d : Part) → AreApart (pieces_of parts) → i < j → j < length parts
    → overlap (piece_of (slice_index_or parts i d)) (piece_of (slice_index_or parts j d)) ≡ false
apart_at [] i j d apart less inside = absurd (omega (arith, inside))
apart_at (p ∷ ps) zero zero d apart less inside = absurd (omega (arith, less))
apart_at (p ∷ ps) zero (suc j) d apart less inside = apart_from p ps j d apart.0 (omega (arith, inside))
apart_at (p ∷ ps) (suc i) zero d apart less inside = absurd (omega (arith, less))
apart_at (p ∷ ps) (suc i) (suc j) d apart less inside =
    apart_at ps i j d apart.1 (omega (arith, less)) (omega (arith, inside))

-- The bounds of a part's piece.
pub bounds_at : (parts : List Part) (k : ℕ) (d : Part) → AllByRecursion IsPiece (pieces_of parts) → k < length parts
    → IsPiece (piece_of (slice_index_or parts k d))
bounds_at [] k d each inside = absurd (omega (arith, inside))
bounds_at (p ∷ ps) zero d each inside = each.0
bounds_at (p ∷ ps) (suc k) d each inside = bounds_at ps k d each.1 (omega (arith, inside))

-- What a search needs to know of a part.
pub record IsRanked (part : Part) : Type 0 where
  pub rank : part.rank ≡ rank_of (piece_of part)
  pub bounds : IsPiece (piece_of part)

pub ranked_at : (parts : List Part) (k : ℕ) (d : Part) → AreKept parts → AllByRecursion IsPiece (pieces_of parts)
    → k < length parts → IsRanked (slice_index_or parts k d)
ranked_at [] k d kept each inside = absurd (omega (arith, inside))
ranked_at (p ∷ ps) zero d kept each inside = record { rank = kept.0; bounds = each.0 }
ranked_at (p ∷ ps) (suc k) d kept each inside = ranked_at ps k d kept.2 each.1 (omega (arith, inside))

-- The rank of a part that has a byte is its base.
rank_stands : (part : Part) (addr : ℕ) → IsRanked part → Stands (piece_of part) addr → part.rank ≡ part.base
rank_stands part addr ranked at =
    let a = at.from in
    let b = at.until in
    let r = ranked.rank in
    grind (arith, nat_tests)

-- Of two parts in order, the first ends before the second begins, or the second has no byte.
first_ends : (p q : Part) (addr : ℕ) → IsRanked p → IsRanked q → p.rank ≤ q.rank → q.rank ≤ addr
    → overlap (piece_of p) (piece_of q) ≡ false → Stands (piece_of p) addr → ⊥
first_ends p q addr rp rq rise up apart at =
    let a = at.from in
    let b = at.until in
    let base_p = rank_stands p addr rp at in
    let r = rq.rank in
    let below = rp.bounds.below in
    let h : min (end_of (piece_of p)) (end_of (piece_of q)) ≤ max p.base q.base = grind (arith, nat_tests) in
    elim (cases_Bool (nat_lt 0 (length (piece_of q).bytes))) [
      | inl some ↦
          let more : 0 < length (piece_of q).bytes = grind (arith, nat_tests) in
          let base_q : q.rank ≡ q.base = grind (arith, nat_tests) in
          omega arith
      | inr none ↦
          let no : length (piece_of q).bytes ≡ 0 = grind (arith, nat_tests) in
          let top : q.rank ≡ 2 ^ 64 - 1 = grind (arith, nat_tests) in
          omega arith
    ]

none_from : (parts : List Part) (addr count : ℕ) (d : Part) → AreSearchable parts → IsCountUpTo addr parts count
    → count ≡ 0 → byte_at (pieces_of parts) addr ≡ None
none_from parts addr count d s found first = go (byte_at (pieces_of parts) addr) refl
  where
    go : (r : Option ℕ) → byte_at (pieces_of parts) addr ≡ r → r ≡ None
    go None e = refl
    go (Some b) e =
        let (k, inside, is) = byte_of_part parts d addr b e in
        let at = byte_stands (piece_of (slice_index_or parts k d)) addr b is in
        let rank = rank_stands (slice_index_or parts k d) addr (ranked_at parts k d s.kept s.each inside) at in
        let from = at.from in
        let high = found.high k d (omega (arith, first)) inside in
        absurd (omega (arith, rank, from, high))

-- Where no part has a rank up to an address, none has a byte there.
pub search_none : (parts : List Part) (addr count : ℕ) → AreSearchable parts → IsCountUpTo addr parts count
    → count ≡ 0 → None ≡ byte_at (pieces_of parts) addr
search_none [] addr count s found first = refl
search_none (p ∷ ps) addr count s found first = sym (none_from (p ∷ ps) addr count p s found first)

-- The byte at an address is that of the last part with a rank up to it.
pub search_last : (parts : List Part) (addr count : ℕ) (d : Part) → AreSearchable parts → IsCountUpTo addr parts count
    → ¬ (count ≡ 0) → count ≤ length parts
    → byte_in (piece_of (slice_index_or parts (count - 1) d)) addr ≡ byte_at (pieces_of parts) addr
search_last parts addr count d s found some few = go (byte_in (piece_of last) addr) refl
  where
    last : Part
    last = slice_index_or parts (count - 1) d

    go : (r : Option ℕ) → byte_in (piece_of (slice_index_or parts (count - 1) d)) addr ≡ r
        → r ≡ byte_at (pieces_of parts) addr
    go (Some b) e = sym (part_byte parts (count - 1) d addr b s.apart (omega (arith, some, few)) e)
    go None e = other (byte_at (pieces_of parts) addr) refl
      where
        other : (r : Option ℕ) → byte_at (pieces_of parts) addr ≡ r → None ≡ r
        other None is = refl
        other (Some b) is =
            let (k, inside, here) = byte_of_part parts d addr b is in
            let p = slice_index_or parts k d in
            let q = slice_index_or parts (count - 1) d in
            let at = byte_stands (piece_of p) addr b here in
            let rp = ranked_at parts k d s.kept s.each inside in
            let rank = rank_stands p addr rp at in
            let from = at.from in
            let within : count - 1 < length parts = omega (arith, some, few) in
            absurd (elim (cases_Bool (nat_lt k (count - 1))) [
              | inl front ↦
                  let less : k < count - 1 = grind (arith, nat_tests) in
                  first_ends p q addr rp (ranked_at parts (count - 1) d s.kept s.each within)
                  (ranks_rise parts k (count - 1) d s.kept (omega (arith, less)) within)
                  (found.low (count - 1) d (omega (arith, some)) within)
                  (apart_at parts k (count - 1) d s.apart less within) at
              | inr behind ↦
                  let far : count - 1 ≤ k = grind (arith, nat_tests) in
                  elim (cases_Bool (nat_lt (count - 1) k)) [
                    | inl after ↦
                        let more : count ≤ k = grind (arith, nat_tests) in
                        let high = found.high k d more inside in
                        omega (arith, rank, from, high)
                    | inr at_it ↦
                        let same : k ≡ count - 1 = grind (arith, nat_tests) in
                        let now : byte_in (piece_of (slice_index_or parts (count - 1) d)) addr ≡ Some b =
                        subst (λ n. byte_in (piece_of (slice_index_or parts n d)) addr ≡ Some b) same here in
                        cc
                  ]
            ])
