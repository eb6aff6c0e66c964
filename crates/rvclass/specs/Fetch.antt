-- The instructions of an image, by the RISC-V Unprivileged ISA's "Base Instruction-Length Encoding".
use Rattle.std.specs.Prelude.{ℕ, ◌%◌, ◌==◌, not, if◌then◌else◌, Bool, Some, None}
use Rattle.rvclass.specs.FetchedBytes.{half_at, has_bytes, word_at}
use Rattle.rvclass.specs.Bits.{bits}
use Rattle.rvclass.specs.Image.{Image}
use Rattle.rvclass.specs.Word16.{class16}
use Rattle.rvclass.specs.Word32.{class32}
use Rattle.rvclass.specs.Words.{Words}
use Rattle.rvclass.specs.declared.class.Class.TheVariants.{NotRetirable}

-- The 16 bits are an instruction of their own.
abbrev pub is_compressed : ℕ → Bool
is_compressed half = not (bits half 1 0 == 0b11)

-- The 16 bits begin an instruction of more than 32 bits.
abbrev pub is_longer : ℕ → Bool
is_longer half = bits half 4 0 == 0b11111

-- The class and the length of the instruction at an address, if there is a complete one. This project's profile: an
-- instruction of more than 32 bits does not retire, and counts as an instruction of 2 bytes, its first 16 bits.
unfoldable pub words_of : Image → Words
words_of p addr =
    if not (addr % 2 == 0) then None else
    if not (has_bytes p addr 2) then None else
    if is_compressed (half_at p addr) then Some (class16 addr (half_at p addr), 2) else
    if is_longer (half_at p addr) then Some (NotRetirable, 2) else
    if not (has_bytes p addr 4) then None else
    Some (class32 addr (word_at p addr), 4)
