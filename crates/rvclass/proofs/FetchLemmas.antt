-- The word at an address is the one of what is fetched there.
use Rattle.std.proofs.Common.{◌≡◌, ℕ, ◌+◌, ◌%◌, ◌^◌, ◌&&◌, ◌==◌, not, if◌then◌else◌, Bool, true, false}
use Rattle.std.proofs.Common.{Option, Some, None, option_map, is_some, refl, sym, ap, ◌∙◌}
use Rattle.rvclass.specs.FetchedBytes.{BeginsWithHalf, byte_at, fetched, half_at, has_bytes, word_at}
use Rattle.rvclass.specs.declared.fetched.Fetched.{Fetched}
use Rattle.rvclass.specs.declared.fetched.Fetched.TheVariants.{Word as FetchedWord, Half, Nothing}
use Rattle.rvclass.proofs.WordsLemmas.{chosen, word_is}
use Rattle.rvclass.specs.Fetch.{is_compressed, is_longer, words_of}
use Rattle.rvclass.specs.Image.{Image}
use Rattle.rvclass.specs.Instruction.{instruction_of, with_code}
use Rattle.rvclass.specs.Word16.{class16}
use Rattle.rvclass.specs.Word32.{class32}
use Rattle.rvclass.specs.Words.{Word}
use Rattle.rvclass.specs.declared.class.Class.TheVariants.{NotRetirable}
use Rattle.rvclass.specs.steps.ByFetch.{even_word, instruction_by_fetch, with_bits, word_by_fetch, word_by_half}

-- Where there are four bytes, there are two.
two_of_four : (m : Image) (addr : ℕ) → has_bytes m addr 4 ≡ true → has_bytes m addr 2 ≡ true
two_of_four m addr e = go (is_some (byte_at m addr)) (is_some (byte_at m (addr + 1))) (has_bytes m (addr + 1 + 1) 2) e
  where
    go : (x y z : Bool) → (x && (y && z)) ≡ true → (x && (y && true)) ≡ true
    go true true z h = refl
    go true false z h = cc
    go false y z h = cc

module _ (m : Image) (addr : ℕ) where
  abbrev fetched_by : Bool → Bool → Fetched
  fetched_by four two =
      if four then FetchedWord (word_at m addr) else
      if two then Half (half_at m addr) else
      Nothing

  abbrev chosen_by : Bool → Bool → Bool → Option Word
  chosen_by even two four =
      chosen even two (is_compressed (half_at m addr)) (is_longer (half_at m addr)) four
      (class16 addr (half_at m addr), 2) (NotRetirable, 2) (class32 addr (word_at m addr), 4)

  abbrev word_by : Bool → Fetched → Option Word
  word_by even fetched = if not even then None else even_word addr fetched

  by_tests : (even four two : Bool) → (four ≡ true → two ≡ true) → BeginsWithHalf m addr (fetched_by four two)
      → word_by even (fetched_by four two) ≡ chosen_by even two four
  by_tests false four two both low = refl
  by_tests true true true both low = ap (λ h. word_by_half addr h (Some (class32 addr (word_at m addr), 4))) low
  by_tests true true false both low = cc (both refl)
  by_tests true false true both low = ap (λ h. word_by_half addr h None) low
  by_tests true false false both low = refl

  pub by_fetch : BeginsWithHalf m addr (fetched m addr) → word_by_fetch addr (fetched m addr) ≡ words_of m addr
  by_fetch low =
      by_tests (addr % 2 == 0) (has_bytes m addr 4) (has_bytes m addr 2) (two_of_four m addr) low ∙ sym (word_is m addr)

  -- The bits of a word of four bytes, and those of one of two bytes.
  coded : (w : Option Word) → word_at m addr % 2 ^ 16 ≡ half_at m addr
      → option_map (with_bits (FetchedWord (word_at m addr))) w ≡ option_map (with_code m addr) w
  coded None low = refl
  coded (Some w) low = λ i. Some (record {
    code = if w.1 == 2 then low i else word_at m addr;
    length = w.1;
    class = w.0;
  })

  abbrev of_half : Bool → Bool → Option Word
  of_half compressed longer =
      if compressed then Some (class16 addr (half_at m addr), 2) else
      if longer then Some (NotRetirable, 2) else
      None

  short : (compressed longer : Bool) → half_at m addr % 2 ^ 16 ≡ half_at m addr
      → option_map (with_bits (Half (half_at m addr))) (of_half compressed longer)
      ≡ option_map (with_code m addr) (of_half compressed longer)
  short true longer low = λ i. Some (record { code = low i; length = 2; class = class16 addr (half_at m addr) })
  short false true low = λ i. Some (record { code = low i; length = 2; class = NotRetirable })
  short false false low = refl

  code_by_tests : (even four two : Bool) → (four ≡ true → two ≡ true) → BeginsWithHalf m addr (fetched_by four two)
      → option_map (with_bits (fetched_by four two)) (word_by even (fetched_by four two))
      ≡ option_map (with_code m addr) (chosen_by even two four)
  code_by_tests false four two both low = refl
  code_by_tests true true true both low =
      coded (word_by true (fetched_by true true)) low
      ∙ ap (option_map (with_code m addr)) (by_tests true true true both low)
  code_by_tests true true false both low = cc (both refl)
  code_by_tests true false true both low =
      ap (λ w. option_map (with_bits (Half (half_at m addr))) w) (by_tests true false true both low)
      ∙ short (is_compressed (half_at m addr)) (is_longer (half_at m addr)) low
  code_by_tests true false false both low = refl

  pub instruction_by : BeginsWithHalf m addr (fetched m addr)
      → instruction_by_fetch addr (fetched m addr) ≡ instruction_of m addr
  instruction_by low =
      code_by_tests (addr % 2 == 0) (has_bytes m addr 4) (has_bytes m addr 2) (two_of_four m addr) low
      ∙ ap (option_map (with_code m addr)) (sym (word_is m addr))
