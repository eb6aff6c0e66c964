-- What stands in a memory with one more piece.
use Rattle.std.proofs.Common.{◌≡◌, ℕ, ◌+◌, ◌%◌, ◌^◌, ◌≤◌, Bool, true, false, not, List, [], ◌∷◌, Result, Ok, Err}
use Rattle.std.proofs.Common.{Option, Some, None, length, nat_lt, nat_le, ◌==◌, if◌then◌else◌, refl, sym, ap, ◌∙◌}
use Rattle.std.proofs.Common.{subst, arith}
use Rattle.std.proofs.lemmas.Bool.Decides.{nat_tests}
use Rattle.rvclass.proofs.PieceBytesLemmas.{both_stand, byte_stands, or_false}
use Rattle.rvclass.proofs.PlacedLemmas.{before_or_after, memory_with}
use Rattle.rvclass.specs.Adding.{add_piece}
use Rattle.rvclass.specs.FetchedBytes.{byte_at, or_else}
use Rattle.rvclass.specs.Memory.{IsMemory, Memory, byte_count, overlaps, placed, with_piece}
use Rattle.rvclass.specs.Piece.{Piece, IsPiece, byte_in, overlap, piece_at}
use Rattle.rvclass.specs.declared.piece_fault.PieceFault.TheVariants.{OddBase, TooLarge, PastEnd, Overlap, TooMuch, TooMany}

-- What is known of a piece that was added.
pub record IsAdded (m : Memory) (base : ℕ) (bytes : List ℕ) (n : Memory) : Type 0 where
  pub piece : IsPiece (piece_at base bytes)
  pub apart : overlaps (piece_at base bytes) m ≡ false
  pub small : byte_count m + length bytes ≤ 2 ^ 26
  pub few : length m + 1 ≤ 1024
  pub is : n ≡ with_piece m (piece_at base bytes)

passed : {X E : Type 0} (b : Bool) (e : E) (r : Result X E) (x : X) → (if b then Err e else r) ≡ Ok x
    → (b ≡ false) × (r ≡ Ok x)
passed true e r x h = cc
passed false e r x h = (refl, h)

pub added : (m : Memory) (base : ℕ) (bytes : List ℕ) (n : Memory) → add_piece m base bytes ≡ Ok n
    → IsAdded m base bytes n
added m base bytes n e =
    let a = passed (not (base % 2 == 0)) OddBase _ n e in
    let b = passed (nat_lt (2 ^ 24) (length bytes)) TooLarge _ n a.1 in
    let c = passed (nat_le (2 ^ 64) (base + length bytes)) PastEnd _ n b.1 in
    let d = passed (overlaps (piece_at base bytes) m) Overlap _ n c.1 in
    let f = passed (nat_lt (2 ^ 26) (byte_count m + length bytes)) TooMuch _ n d.1 in
    let h = passed (nat_lt 1024 (length m + 1)) TooMany _ n f.1 in
    let odd = a.0 in
    let large = b.0 in
    let past = c.0 in
    let much = f.0 in
    let many = h.0 in
    let is : with_piece m (piece_at base bytes) ≡ n = cc (h.1) in
    record {
      piece = record {
        even = grind (arith, nat_tests);
        small = grind (arith, nat_tests);
        below = grind (arith, nat_tests);
      };
      apart = d.0;
      small = grind (arith, nat_tests);
      few = grind (arith, nat_tests);
      is = sym is;
    }

-- A memory with one more piece is a memory.
pub added_memory : (m : Memory) (base : ℕ) (bytes : List ℕ) (n : Memory) → IsMemory m → add_piece m base bytes ≡ Ok n
    → IsMemory n
added_memory [] base bytes n memory e =
    let a = added [] base bytes n e in
    let small = a.small in
    subst IsMemory (sym a.is) (record {
      each = (a.piece, tt);
      apart = (refl, tt);
      small = omega (arith, small);
      few = omega arith;
    })
added_memory (first ∷ others) base bytes n memory e =
    let a = added (first ∷ others) base bytes n e in
    let both = or_false (overlap (piece_at base bytes) first) (overlaps (piece_at base bytes) others) a.apart in
    let small = a.small in
    let few = a.few in
    subst IsMemory (sym a.is)
    (memory_with first (piece_at base bytes) others memory a.piece both.0 both.1 (omega (arith, small))
    (omega (arith, few)))

-- The byte of either of two, of which at most one has one.
either_first : (x y z : Option ℕ) → ((a b : ℕ) → x ≡ Some a → y ≡ Some b → ⊥)
    → or_else y (or_else x z) ≡ or_else x (or_else y z)
either_first None y z apart = refl
either_first (Some a) None z apart = refl
either_first (Some a) (Some b) z apart = absurd (apart a b refl refl)

-- The bytes of two pieces that do not overlap, in either order.
pub in_either_order : (p q : Piece) (addr : ℕ) (o : Option ℕ) → overlap p q ≡ false
    → or_else (byte_in q addr) (or_else (byte_in p addr) o) ≡ or_else (byte_in p addr) (or_else (byte_in q addr) o)
in_either_order p q addr o apart =
    either_first (byte_in p addr) (byte_in q addr) o
    (λ a b at_p at_q. both_stand p q addr apart (byte_stands p addr a at_p) (byte_stands q addr b at_q))

byte_placed : (p : Piece) (ps : Memory) (addr : ℕ) → overlaps p ps ≡ false
    → byte_at (placed p ps) addr ≡ or_else (byte_in p addr) (byte_at ps addr)
byte_placed p [] addr apart = refl
byte_placed p (q ∷ qs) addr apart =
    let both = or_false (overlap p q) (overlaps p qs) apart in
    before_or_after
    (λ l. byte_at l addr ≡ or_else (byte_in p addr) (or_else (byte_in q addr) (byte_at qs addr))) p q qs refl
    (ap (or_else (byte_in q addr)) (byte_placed p qs addr both.1)
    ∙ in_either_order p q addr (byte_at qs addr) both.0)

byte_with : (m : Memory) (p : Piece) (addr : ℕ) → overlaps p m ≡ false
    → byte_at (with_piece m p) addr ≡ or_else (byte_in p addr) (byte_at m addr)
byte_with [] p addr apart = refl
byte_with (q ∷ qs) p addr apart =
    let both = or_false (overlap p q) (overlaps p qs) apart in
    ap (or_else (byte_in q addr)) (byte_placed p qs addr both.1) ∙ in_either_order p q addr (byte_at qs addr) both.0

-- The bytes of a memory with one more piece.
pub added_byte : (m : Memory) (base : ℕ) (bytes : List ℕ) (n : Memory) (addr : ℕ) → add_piece m base bytes ≡ Ok n
    → byte_at n addr ≡ or_else (byte_in (piece_at base bytes) addr) (byte_at m addr)
added_byte m base bytes n addr e =
    let a = added m base bytes n e in
    ap (λ l. byte_at l addr) a.is ∙ byte_with m (piece_at base bytes) addr a.apart

apart_of_placed : (p q : Piece) (ps : Memory) → overlaps q (placed p ps) ≡ false → overlap q p ≡ false
apart_of_placed p q [] e = (or_false (overlap q p) false e).0
apart_of_placed p q (r ∷ rs) e =
    before_or_after (λ l. overlaps q l ≡ false → overlap q p ≡ false) p r rs
    (λ h. (or_false (overlap q p) (overlaps q (r ∷ rs)) h).0)
    (λ h. apart_of_placed p q rs (or_false (overlap q r) (overlaps q (placed p rs)) h).1) e

apart_of_with : (p q : Piece) (m : Memory) → overlaps q (with_piece m p) ≡ false → overlap q p ≡ false
apart_of_with p q [] e = (or_false (overlap q p) false e).0
apart_of_with p q (r ∷ rs) e = apart_of_placed p q rs (or_false (overlap q r) (overlaps q (placed p rs)) e).1

-- The bytes of a memory with two more pieces, added in either order.
pub added_either : (m one both other two : Memory) (base second : ℕ) (bytes more : List ℕ) (addr : ℕ)
    → add_piece m base bytes ≡ Ok one → add_piece one second more ≡ Ok both
    → add_piece m second more ≡ Ok other → add_piece other base bytes ≡ Ok two → byte_at both addr ≡ byte_at two addr
added_either m one both other two base second bytes more addr e1 e2 e3 e4 =
    let p = piece_at base bytes in
    let q = piece_at second more in
    let first = added m base bytes one e1 in
    let later = added one second more both e2 in
    let apart : overlap q p ≡ false = apart_of_with p q m (subst (λ l. overlaps q l ≡ false) first.is later.apart) in
    added_byte one second more both addr e2
    ∙ ap (or_else (byte_in q addr)) (added_byte m base bytes one addr e1)
    ∙ sym (in_either_order q p addr (byte_at m addr) apart)
    ∙ sym (ap (or_else (byte_in p addr)) (added_byte m second more other addr e3))
    ∙ sym (added_byte other base bytes two addr e4)
