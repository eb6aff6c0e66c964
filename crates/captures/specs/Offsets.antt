-- Where bytes of a capture are.
use Rattle.std.specs.Prelude.{ℕ, ◌++◌, List, codes}
use Rattle.std.specs.Fmt.{decimal}
use Rattle.explaining.specs.Digits.{hex_filled}

-- An offset in a capture, in eight hexadecimal digits at least.
abbrev pub offset_text : ℕ → List ℕ
offset_text offset = hex_filled 8 offset

-- The line of a run of bytes that are of no message: how many there are, and the offset of the first.
abbrev pub bytes_line : ℕ → ℕ → List ℕ
bytes_line offset count =
    codes "bytes: " ++ (decimal count ++ (codes " at " ++ (offset_text offset ++ codes "\n")))
