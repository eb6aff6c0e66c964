-- How the line of a stretch ends.
use Rattle.std.specs.Prelude.{ℕ, ◌++◌, Bool, true, false, List, [], ◌∷◌, Option, Some, None, codes}
use Rattle.legalpath.specs.LastPlace.{last_place}
use Rattle.retire.specs.Events.{place}
use Rattle.retire.specs.LogText.{hex}
use Rattle.retire.specs.declared.event.Event.{Event}
use Rattle.symbols.specs.SymbolText.{symbol_text}

-- The first place of a stretch, or the last, after what comes before it.
abbrev pub lead_text : Bool → ℕ → List ℕ
lead_text false at = codes ", " ++ hex at
lead_text true at = codes " to " ++ hex at

-- The same, and what the symbols of a file name the place.
abbrev pub named_text : List ℕ → Bool → ℕ → List ℕ
named_text file is_last at = lead_text is_last at ++ symbol_text file at

-- Both places.
abbrev pub range_text : List ℕ → ℕ → ℕ → List ℕ
range_text file first last = named_text file false first ++ named_text file true last

-- The places of the first event and of the last, where there are symbols.
abbrev pub behind_text : Option (List ℕ) → List Event → List ℕ
behind_text None events = []
behind_text (Some file) [] = []
behind_text (Some file) (event ∷ events) = range_text file (place event) (last_place (place event) events)

-- The end of the line: these places, and the line's end.
abbrev pub stretch_end : Option (List ℕ) → List Event → List ℕ
stretch_end symbols events = behind_text symbols events ++ codes "\n"
