-- Where the words of an image stand.
use Rattle.std.proofs.Common.{◌≡◌, ◌⊎◌, ℕ, ◌+◌, ◌/◌, ◌%◌, ◌^◌, ◌<◌, ◌≤◌, ◌&&◌, ◌==◌, not, if◌then◌else◌, Bool, true, false}
use Rattle.std.proofs.Common.{Option, Some, None, is_some, refl, sym, ◌∙◌, arith, inl, inr, IfSome, subst}
use Rattle.std.proofs.lemmas.Bool.Decides.{nat_tests}
use Rattle.rvclass.proofs.PieceBytesLemmas.{byte_below}
use Rattle.rvclass.proofs.HalvesLemmas.{below_halves, below_higher, halves_few, second_byte}
use Rattle.rvclass.specs.FetchedBytes.{byte_at, half_at, has_bytes, word_at}
use Rattle.rvclass.specs.Halves.{halves_below}
use Rattle.rvclass.specs.Memory.{byte_count}
use Rattle.rvclass.specs.Fetch.{is_compressed, is_longer, words_of}
use Rattle.rvclass.specs.Image.{Image, IsImage}
use Rattle.rvclass.specs.Word16.{class16}
use Rattle.rvclass.specs.Word32.{class32}
use Rattle.rvclass.specs.Words.{IsProgram, LiesIn, Word}
use Rattle.rvclass.specs.declared.class.Class.TheVariants.{NotRetirable}

-- One of three words, by these tests.
abbrev pub chosen : Bool → Bool → Bool → Bool → Bool → Word → Word → Word → Option Word
chosen even two compressed longer four x y z =
    if not even then None else
    if not two then None else
    if compressed then Some x else
    if longer then Some y else
    if not four then None else
    Some z

pub word_is : (m : Image) (addr : ℕ) → words_of m addr
    ≡ chosen (addr % 2 == 0) (has_bytes m addr 2) (is_compressed (half_at m addr)) (is_longer (half_at m addr))
    (has_bytes m addr 4) (class16 addr (half_at m addr), 2) (NotRetirable, 2) (class32 addr (word_at m addr), 4)
unfolding words_of
word_is m addr = refl

-- What the tests of a word were.
record IsChosen (even two four : Bool) (x y z w : Word) : Type 0 where
  at_even : even ≡ true
  has_two : two ≡ true
  which : (w ≡ x) ⊎ (w ≡ y) ⊎ ((w ≡ z) × (four ≡ true))

which_is : (even two compressed longer four : Bool) (x y z w : Word)
    → chosen even two compressed longer four x y z ≡ Some w → IsChosen even two four x y z w
which_is false two compressed longer four x y z w e = cc
which_is true false compressed longer four x y z w e = cc
which_is true true true longer four x y z w e = record { at_even = refl; has_two = refl; which = inl cc }
which_is true true false true four x y z w e = record { at_even = refl; has_two = refl; which = inr (inl cc) }
which_is true true false false false x y z w e = cc
which_is true true false false true x y z w e = record { at_even = refl; has_two = refl; which = inr (inr (cc, refl)) }

-- A word is at an even address, and has two bytes there, or four.
pub record Stands (m : Image) (addr : ℕ) (w : Word) : Type 0 where
  pub even : addr % 2 ≡ 0
  pub two : has_bytes m addr 2 ≡ true
  pub long : (w.1 ≡ 2) ⊎ ((w.1 ≡ 4) × (has_bytes m addr 4 ≡ true))

pub words_stand : (m : Image) (addr : ℕ) (w : Word) → words_of m addr ≡ Some w → Stands m addr w
words_stand m addr w e =
    let c : IsChosen (addr % 2 == 0) (has_bytes m addr 2) (has_bytes m addr 4) (class16 addr (half_at m addr), 2)
    (NotRetirable, 2) (class32 addr (word_at m addr), 4) w =
    which_is _ _ (is_compressed (half_at m addr)) (is_longer (half_at m addr)) _ _ _ _ w (sym (word_is m addr) ∙ e) in
    let test : (addr % 2 == 0) ≡ true = c.at_even in
    record { even = grind (arith, nat_tests); two = c.has_two; long = length_is c.which }
  where
    length_is : (w ≡ (class16 addr (half_at m addr), 2)) ⊎ (w ≡ (NotRetirable, 2))
        ⊎ ((w ≡ (class32 addr (word_at m addr), 4)) × (has_bytes m addr 4 ≡ true))
        → (w.1 ≡ 2) ⊎ ((w.1 ≡ 4) × (has_bytes m addr 4 ≡ true))
    length_is (inl same) = inl (λ i. (same i).1)
    length_is (inr (inl same)) = inl (λ i. (same i).1)
    length_is (inr (inr (same, four))) = inr ((λ i. (same i).1), four)

-- The last of four bytes.
fourth_byte : (m : Image) (addr : ℕ) → has_bytes m addr 4 ≡ true → (c : ℕ) × (byte_at m (addr + 1 + 1 + 1) ≡ Some c)
fourth_byte m addr e =
    go (is_some (byte_at m addr)) (is_some (byte_at m (addr + 1))) (is_some (byte_at m (addr + 1 + 1)))
    (byte_at m (addr + 1 + 1 + 1)) e
  where
    go : (x y z : Bool) (r : Option ℕ) → (x && (y && (z && (is_some r && true)))) ≡ true → (c : ℕ) × (r ≡ Some c)
    go true true true (Some c) h = (c, refl)
    go true true true None h = cc
    go true true false r h = cc
    go true false z r h = cc
    go false y z r h = cc

-- A byte that there is has an address below the last.
below_last : (m : Image) (addr c : ℕ) → IsImage m → byte_at m addr ≡ Some c → addr + 1 < 2 ^ 64
below_last m addr c image e =
    subst (λ r. IfSome r (λ _. addr + 1 < 2 ^ 64)) e (byte_below m addr (byte_at m addr) image.each refl)

pub words_of-IsProgram : (m : Image) → IsImage m → IsProgram (words_of m)
words_of-IsProgram m image = record {
  even = λ addr w e. (words_stand m addr w e).even;
  long = λ addr w e. at_least w (words_stand m addr w e).long;
  below = λ addr w e. let s = words_stand m addr w e in ends addr w s.two s.long;
}
  where
    at_least : (w : Word) {F : Type 0} → (w.1 ≡ 2) ⊎ ((w.1 ≡ 4) × F) → 2 ≤ w.1
    at_least w (inl two) = omega (arith, two)
    at_least w (inr (four, f)) = omega (arith, four)

    ends : (addr : ℕ) (w : Word) → has_bytes m addr 2 ≡ true → (w.1 ≡ 2) ⊎ ((w.1 ≡ 4) × (has_bytes m addr 4 ≡ true))
        → addr + w.1 < 2 ^ 64
    ends addr w two (inl is) =
        let byte = second_byte m addr two in
        let below = below_last m (addr + 1) byte.0 image byte.1 in
        omega (arith, is, below)
    ends addr w two (inr (is, four)) =
        let byte = fourth_byte m addr four in
        let below = below_last m (addr + 1 + 1 + 1) byte.0 image byte.1 in
        omega (arith, is, below)

pub words_of-LiesIn : (m : Image) → IsImage m → LiesIn (words_of m) (halves_below m) (byte_count m / 2)
words_of-LiesIn m image = record {
  below = λ addr w e.
      let s = words_stand m addr w e in
      let byte = second_byte m addr s.two in
      let below = below_halves addr s.even m byte.0 image.each byte.1 in
      let few = halves_few m in
      omega (arith, below, few);
  rising = λ addr other w v e f less.
      let s = words_stand m addr w e in
      let byte = second_byte m addr s.two in
      let even = s.even in
      let also = (words_stand m other v f).even in
      below_higher addr even m other byte.0 image.each byte.1 (omega (arith, even, also, less));
}
