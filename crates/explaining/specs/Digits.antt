-- The digits of a word.
use Rattle.std.specs.Prelude.{ℕ, ◌-◌, ◌++◌, ◌==◌, if◌then◌else◌, List, length, replicate}
use Rattle.retire.specs.LogText.{hex}

-- A number in lower-case hexadecimal, with leading zeros if it has fewer digits than this.
abbrev pub hex_filled : ℕ → ℕ → List ℕ
hex_filled width n = replicate (width - length (hex n)) 48 ++ hex n

-- The bits of a word of 2 bytes in four digits, and of a word of 4 bytes in eight.
abbrev pub code_text : ℕ → ℕ → List ℕ
code_text bytes code = if bytes == 2 then hex_filled 4 code else hex_filled 8 code
