-- The instruction at an address by the bits that were fetched there.
use Rattle.std.specs.Prelude.{ℕ, ◌%◌, ◌==◌, ◌^◌, not, if◌then◌else◌, Option, Some, None, option_map}
use Rattle.rvclass.specs.declared.fetched.Fetched.{Fetched}
use Rattle.rvclass.specs.declared.fetched.Fetched.TheVariants.{Word as FetchedWord, Half, Nothing}
use Rattle.rvclass.specs.Fetch.{is_compressed, is_longer}
use Rattle.rvclass.specs.Word16.{class16}
use Rattle.rvclass.specs.Word32.{class32}
use Rattle.rvclass.specs.Words.{Word}
use Rattle.rvclass.specs.declared.class.Class.TheVariants.{NotRetirable}
use Rattle.rvclass.specs.declared.instruction.Instruction.{Instruction}

-- The instruction that begins with these 16 bits: it has them alone, or else is this one.
abbrev pub word_by_half : ℕ → ℕ → Option Word → Option Word
word_by_half addr half longer =
    if is_compressed half then Some (class16 addr half, 2) else
    if is_longer half then Some (NotRetirable, 2) else
    longer

-- The instruction at an even address where this was fetched.
abbrev pub even_word : ℕ → Fetched → Option Word
even_word addr (FetchedWord word) = word_by_half addr (word % 2 ^ 16) (Some (class32 addr word, 4))
even_word addr (Half half) = word_by_half addr (half % 2 ^ 16) None
even_word addr Nothing = None

-- The instruction at an address where this was fetched.
abbrev pub word_by_fetch : ℕ → Fetched → Option Word
word_by_fetch addr fetched = if not (addr % 2 == 0) then None else even_word addr fetched

-- The bits that were fetched.
abbrev pub fetched_bits : Fetched → ℕ
fetched_bits (FetchedWord word) = word
fetched_bits (Half half) = half
fetched_bits Nothing = 0

-- An instruction with its bits, of those that were fetched.
abbrev pub with_bits : Fetched → Word → Instruction
with_bits fetched word = record {
  code = if word.1 == 2 then fetched_bits fetched % 2 ^ 16 else fetched_bits fetched;
  length = word.1;
  class = word.0;
}

-- The instruction at an address with its bits, where this was fetched.
abbrev pub instruction_by_fetch : ℕ → Fetched → Option Instruction
instruction_by_fetch addr fetched = option_map (with_bits fetched) (word_by_fetch addr fetched)
