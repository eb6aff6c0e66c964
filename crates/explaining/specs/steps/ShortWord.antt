-- An instruction of 2 bytes.
use Rattle.std.specs.Prelude.{◌&&◌, ◌==◌, Bool, false, ℕ, None, Option, Some}
use Rattle.rvclass.specs.declared.instruction.Instruction.{Instruction}

-- There is an instruction, which has 2 bytes and these bits.
abbrev pub is_short_word : Option Instruction → ℕ → Bool
is_short_word None code = false
is_short_word (Some word) code = (word.length == 2) && (word.code == code)
