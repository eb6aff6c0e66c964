-- Where records may start in a text: the states of `csv`'s machine, as far as the ends of records go.
use Rattle.std.specs.Prelude.{◌==◌, ℕ, List, [], ◌∷◌, if◌then◌else◌}
use Rattle.retire.specs.PlainText.{is_line_end}
use Rattle.retire.specs.declared.boundary.Place.{Place}
use Rattle.retire.specs.declared.boundary.Place.TheVariants as place

-- What follows a byte that is outside quotes and is no quote itself.
abbrev pub outside : ℕ → Place
outside byte = if byte == 44 then place.Field else if is_line_end byte then place.Start else place.Inside

-- What follows a byte.
abbrev pub next_place : Place → ℕ → Place
next_place place.Start byte = if byte == 34 then place.Quoted else outside byte
next_place place.Field byte = if byte == 34 then place.Quoted else outside byte
next_place place.Inside byte = outside byte
next_place place.Quoted byte = if byte == 34 then place.Quote else place.Quoted
next_place place.Quote byte = if byte == 34 then place.Quoted else outside byte

-- What follows these bytes.
unfoldable pub place_after : Place → List ℕ → Place
place_after at [] = at
place_after at (byte ∷ rest) = place_after (next_place at byte) rest
