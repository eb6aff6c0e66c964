-- The texts of a range of harts: how one is asked for, and how one is printed.
use Rattle.std.specs.Prelude.{ℕ, ◌==◌, ◌++◌, ◌&&◌, Bool, List, Option, Some, None, if◌then◌else◌}
use Rattle.std.specs.Prelude.{codes, length, nat_le, nat_lt}
use Rattle.std.specs.Fmt.{decimal}
use Rattle.std.specs.List.{after_first, before_first, list_all, position_or_len}
use Rattle.std.specs.Char.{is_ascii_digit}
use Rattle.std.specs.Str.Parse.{digits_value}
use Rattle.message.specs.Version.{most_harts}
use Rattle.message.specs.declared.header.Version.TheVariants.{Two}
use Rattle.message.specs.declared.range.HartRange.{HartRange}

-- The hart that decimal digits spell, where there is a digit and nothing else, and it is below 1,024.
abbrev pub hart_of : List ℕ → Option ℕ
hart_of text =
    if list_all is_ascii_digit text && (nat_lt 0 (length text) && nat_lt (digits_value 10 text) (most_harts Two))
    then Some (digits_value 10 text) else None

-- The harts from the first to the last, where there are both, and the first is not above the last.
abbrev pub ordered : Option ℕ → Option ℕ → Option HartRange
ordered (Some first) (Some last) = if nat_le first last then Some (record { first = first; last = last }) else None
ordered _ _ = None

-- A byte is `-`.
abbrev pub is_hyphen : ℕ → Bool
is_hyphen byte = byte == 45

-- The harts that a text asks for: from the one before its first `-` to the one after it, or the one that it spells where
-- it has no `-`.
abbrev pub range_of : List ℕ → Option HartRange
range_of text =
    if nat_lt (position_or_len is_hyphen text) (length text)
    then ordered (hart_of (before_first is_hyphen text)) (hart_of (after_first is_hyphen text))
    else ordered (hart_of text) (hart_of text)

-- The text of a range.
abbrev pub range_text : HartRange → List ℕ
range_text range = decimal range.first ++ (codes " to " ++ decimal range.last)
