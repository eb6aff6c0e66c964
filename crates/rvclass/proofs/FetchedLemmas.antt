-- What stands at an address, by the bytes there.
use Rattle.std.proofs.Common.{◌≡◌, ℕ, ◌+◌, ◌-◌, ◌*◌, ◌%◌, ◌^◌, ◌≤◌, ◌&&◌, true, if◌then◌else◌}
use Rattle.std.proofs.Common.{Option, Some, slice_index, is_some, unwrap_or, sym, ap, ◌∙◌, arith}
use Rattle.std.proofs.lemmas.Bool.Decides.{nat_tests}
use Rattle.rvclass.proofs.PieceBytesLemmas.{byte_there}
use Rattle.rvclass.specs.FetchedBytes.{byte_at, has_bytes, half_at, word_at, fetched}
use Rattle.rvclass.specs.Memory.{Memory}
use Rattle.rvclass.specs.Piece.{Piece, byte_in, end_of}
use Rattle.rvclass.specs.declared.fetched.Fetched.TheVariants.{Word, Half, Nothing}
use Rattle.rvclass.specs.steps.Search.{IsWordAt}
use Rattle.rvclass.specs.steps.Words.{half_from, word_from, word_in}

module _ (m : Memory) (addr : ℕ) where
  -- The bytes at the addresses as definitions write them.
  second : (o : Option ℕ) → byte_at m (addr + 2) ≡ o → byte_at m (addr + 1 + 1) ≡ o
  second o e = let same : addr + 1 + 1 ≡ addr + 2 = omega arith in ap (byte_at m) same ∙ e

  third : (o : Option ℕ) → byte_at m (addr + 3) ≡ o → byte_at m (addr + 1 + 1 + 1) ≡ o
  third o e = let same : addr + 1 + 1 + 1 ≡ addr + 3 = omega arith in ap (byte_at m) same ∙ e

  high : (o : Option ℕ) → byte_at m (addr + 3) ≡ o → byte_at m (addr + 2 + 1) ≡ o
  high o e = let same : addr + 2 + 1 ≡ addr + 3 = omega arith in ap (byte_at m) same ∙ e

  pub half : (b0 b1 : ℕ) → byte_at m addr ≡ Some b0 → byte_at m (addr + 1) ≡ Some b1 → half_at m addr ≡ b0 + 2 ^ 8 * b1
  half b0 b1 e0 e1 = λ i. unwrap_or (e0 i) 0 + 2 ^ 8 * unwrap_or (e1 i) 0

  pub fetched_four : (b0 b1 b2 b3 : ℕ) → byte_at m addr ≡ Some b0 → byte_at m (addr + 1) ≡ Some b1
      → byte_at m (addr + 2) ≡ Some b2 → byte_at m (addr + 3) ≡ Some b3
      → fetched m addr ≡ Word (b0 + 2 ^ 8 * b1 + 2 ^ 16 * (b2 + 2 ^ 8 * b3))
  fetched_four b0 b1 b2 b3 e0 e1 e2 e3 =
      let e2' = second (Some b2) e2 in
      let e3' = third (Some b3) e3 in
      let e3'' = high (Some b3) e3 in
      let four : has_bytes m addr 4 ≡ true =
      (λ i. is_some (e0 i) && (is_some (e1 i) && (is_some (e2' i) && (is_some (e3' i) && true)))) in
      let word : word_at m addr ≡ b0 + 2 ^ 8 * b1 + 2 ^ 16 * (b2 + 2 ^ 8 * b3) =
      (λ i. unwrap_or (e0 i) 0 + 2 ^ 8 * unwrap_or (e1 i) 0
      + 2 ^ 16 * (unwrap_or (e2 i) 0 + 2 ^ 8 * unwrap_or (e3'' i) 0)) in
      λ i. if four i then Word (word i) else if has_bytes m addr 2 then Half (half_at m addr) else Nothing

-- A piece has all four bytes of a word at an address.
pub record HasWord (p : Piece) (addr w : ℕ) : Type 0 where
  pub from : p.base ≤ addr
  pub until : addr + 4 ≤ end_of p
  pub is : w ≡ word_from p.bytes (addr - p.base)

pub word_stands : (p : Piece) (addr w : ℕ) → word_in p addr ≡ Some w → HasWord p addr w
word_stands p addr w e = record {
  from = grind (arith, nat_tests);
  until = grind (arith, nat_tests);
  is = grind (arith, nat_tests);
}

-- What stands at an address where one piece of a memory has four bytes: its bytes are those of the memory.
pub fetched_word : (m : Memory) (p : Piece) (addr w : ℕ)
    → ((a b : ℕ) → byte_in p a ≡ Some b → byte_at m a ≡ Some b) → word_in p addr ≡ Some w
    → w % 2 ^ 16 ≡ half_from p.bytes (addr - p.base) → IsWordAt m addr w
fetched_word m p addr w one_of e low =
    let s = word_stands p addr w e in
    let k = addr - p.base in
    let from = s.from in
    let until = s.until in
    let at0 = one_of addr _ (byte_there p addr from (omega arith)) in
    let at1 = one_of (addr + 1) _ (byte_there p (addr + 1) (omega arith) (omega arith)) in
    let at2 = one_of (addr + 2) _ (byte_there p (addr + 2) (omega arith) (omega arith)) in
    let at3 = one_of (addr + 3) _ (byte_there p (addr + 3) (omega arith) (omega arith)) in
    let k1 : addr + 1 - p.base ≡ k + 1 = omega arith in
    let k2 : addr + 2 - p.base ≡ k + 2 = omega arith in
    let k3 : addr + 3 - p.base ≡ k + 2 + 1 = omega arith in
    let b = slice_index p.bytes in
    let sum : b k + 2 ^ 8 * b (addr + 1 - p.base) + 2 ^ 16 * (b (addr + 2 - p.base) + 2 ^ 8 * b (addr + 3 - p.base))
    ≡ word_from p.bytes k =
    (λ i. b k + 2 ^ 8 * b (k1 i) + 2 ^ 16 * (b (k2 i) + 2 ^ 8 * b (k3 i))) in
    let first : b k + 2 ^ 8 * b (addr + 1 - p.base) ≡ half_from p.bytes k = (λ i. b k + 2 ^ 8 * b (k1 i)) in (
      fetched_four m addr _ _ _ _ at0 at1 at2 at3 ∙ ap Word (sum ∙ sym s.is),
      low ∙ sym (half m addr _ _ at0 at1 ∙ first),
    )
