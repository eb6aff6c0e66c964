-- A text that is cut at the first byte of a kind.
use Rattle.std.specs.Prelude.{ℕ, ◌==◌, ◌||◌, not, if◌then◌else◌, Bool, List, [], ◌∷◌, Option, Some, None, drop}
use Rattle.std.specs.List.{position_or_len}
use Rattle.captures.specs.Line.{fields_of, is_blank, is_comma}
use Rattle.captures.specs.declared.line_field.Stop.{Stop}
use Rattle.captures.specs.declared.line_field.Stop.TheVariants.{End, Feed, Word}

-- The byte is of this kind: a line feed; no blank and no tab; or one that ends a word, a blank, a tab or a comma.
abbrev pub stops : Stop → ℕ → Bool
stops Feed byte = byte == 10
stops Word byte = not (is_blank byte)
stops End byte = is_blank byte || is_comma byte

-- A text from its first byte on that is no blank and no tab.
abbrev pub unblanked : List ℕ → List ℕ
unblanked text = drop (position_or_len (stops Word) text) text

-- The fields of what is left of a line, where something is left.
abbrev pub fields_left : Option (List ℕ) → List (List ℕ)
fields_left None = []
fields_left (Some rest) = fields_of rest

-- What follows a comma, or the text where it does not begin with one. Nothing follows where there is no text.
abbrev pub after_comma : List ℕ → Option (List ℕ)
after_comma [] = None
after_comma (byte ∷ text) = if is_comma byte then Some text else Some (byte ∷ text)
