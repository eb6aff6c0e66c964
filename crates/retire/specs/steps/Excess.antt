-- How the sum of the values of eight bytes shows whether all of them are digits.
use Rattle.std.specs.Prelude.{ℕ, if◌then◌else◌}
use Rattle.std.specs.Char.{digit_value}
use Rattle.retire.specs.Number.{is_hex_digit}

-- The value of a hexadecimal digit. Any other byte has a value above all numbers that eight digits spell.
abbrev pub value_or_excess : ℕ → ℕ
value_or_excess byte = if is_hex_digit byte then digit_value byte else 4294967296
