-- The further pieces of an image, as arguments give them: the text of a base, `=`, and a path.
use Rattle.std.specs.Prelude.{ℕ, ◌==◌, Bool, List, Option, Some, None, if◌then◌else◌, is_some, option_and_then}
use Rattle.std.specs.Prelude.{length, nat_lt, option_map}
use Rattle.std.specs.List.{after_first, before_first, list_all, position_or_len}
use Rattle.retire.specs.Number.{number_of}
use Rattle.command_inputs.specs.Faults.{Path}
use Rattle.command_inputs.specs.declared.words.ProgramArgs.{ProgramArgs}

-- A byte is `=`.
abbrev pub is_equals : ℕ → Bool
is_equals byte = byte == 61

-- A text parted at its first `=`: what comes before, and what comes after.
abbrev pub parted : List ℕ → Option (List ℕ × List ℕ)
parted text =
    if nat_lt (position_or_len is_equals text) (length text)
    then Some (before_first is_equals text, after_first is_equals text) else None

-- The number of a piece's base, if its text spells one, and the piece's path.
abbrev pub with_number : List ℕ × List ℕ → Option (ℕ × List ℕ)
with_number (text, path) = option_map (λ base. (base, path)) (number_of text)

-- The base and the path of the piece that an argument gives. There are none where the argument has no `=`, or where
-- what comes before the first is no number.
abbrev pub given_piece : List ℕ → Option (ℕ × List ℕ)
given_piece argument = option_and_then with_number (parted argument)

-- An argument gives a piece.
abbrev pub gives_piece : Path → Bool
gives_piece argument = is_some (given_piece argument.now)

-- The number of the image's base, where it is one and each further argument gives a piece.
abbrev pub base_number : ProgramArgs → Option ℕ
base_number asked = if list_all gives_piece asked.also.items then number_of asked.base.now else None
