-- The text of what a message does.
use Rattle.std.specs.Prelude.{ℕ, ◌++◌, Bool, true, false, List, [], ◌∷◌, Option, codes, length}
use Rattle.std.specs.Fmt.{decimal}
use Rattle.retire.specs.Events.{place}
use Rattle.retire.specs.LogText.{hex}
use Rattle.retire.specs.declared.event.Event.{Event}
use Rattle.legalpath.specs.LastPlace.{last_place}
use Rattle.symbols.specs.SymbolText.{name_text}
use Rattle.listing.specs.Effect.{Effect}
use Rattle.listing.specs.SettledRows.{shown_rows}
use Prim.Native.Nat.{zero, suc}

-- A place in hexadecimal, and what the symbols name it.
abbrev pub place_text : Option (List ℕ) → ℕ → List ℕ
place_text symbols at = hex at ++ name_text symbols at

-- How many events, and the places of the first and of the last.
abbrev pub added_text : Option (List ℕ) → List Event → List ℕ
added_text symbols [] = codes "nothing"
added_text symbols (event ∷ []) = codes "1 event, " ++ place_text symbols (place event)
added_text symbols (event ∷ next ∷ rest) =
    decimal (length (event ∷ next ∷ rest)) ++
    (codes " events, " ++
    (place_text symbols (place event) ++
    (codes " to " ++ place_text symbols (last_place (place next) rest))))

-- The same by how many events there are, and by the places of the first and of the last.
abbrev pub places_text : Option (List ℕ) → ℕ → ℕ → ℕ → List ℕ
places_text symbols zero first last = codes "nothing"
places_text symbols (suc zero) first last = codes "1 event, " ++ place_text symbols first
places_text symbols (suc (suc more)) first last =
    decimal (suc (suc more)) ++
    (codes " events, " ++ (place_text symbols first ++ (codes " to " ++ place_text symbols last)))

-- What the text says where a packet waits.
abbrev pub waits_text : Bool → List ℕ
waits_text true = codes ", waits"
waits_text false = []

-- What the text says where a packet closes its hart.
abbrev pub closes_text : Bool → List ℕ
closes_text true = codes ", closed"
closes_text false = []

-- What a message does: the events that it adds, which rows they are, if that is to be said, whether its packet waits, and
-- whether it closes its hart.
abbrev pub effect_text : Bool → Option (List ℕ) → Effect → List ℕ
effect_text shows symbols effect =
    added_text symbols effect.added
    ++ (shown_rows shows effect.rows (length effect.added) ++ (waits_text effect.waits ++ closes_text effect.closes))
