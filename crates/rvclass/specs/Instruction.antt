-- The instructions of an image with their bits.
use Rattle.std.specs.Prelude.{ℕ, ◌==◌, if◌then◌else◌, Option, option_map}
use Rattle.rvclass.specs.FetchedBytes.{half_at, word_at}
use Rattle.rvclass.specs.Fetch.{words_of}
use Rattle.rvclass.specs.Image.{Image}
use Rattle.rvclass.specs.Words.{Word}
use Rattle.rvclass.specs.declared.instruction.Instruction.{Instruction}

-- The instruction at an address of an image with its bits, which are read little endian, as many as its length says.
abbrev pub with_code : Image → ℕ → Word → Instruction
with_code p addr word = record {
  code = if word.1 == 2 then half_at p addr else word_at p addr;
  length = word.1;
  class = word.0;
}

-- The instruction at an address with its bits, if there is a complete one.
abbrev pub instruction_of : Image → ℕ → Option Instruction
instruction_of p addr = option_map (with_code p addr) (words_of p addr)
