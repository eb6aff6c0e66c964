-- Which logs are read straight from their bytes.
use Rattle.std.specs.Prelude.{◌≡◌, ◌⊎◌, ◌≤◌, ◌++◌, ℕ, List, [], ◌∷◌, All, Ok, length}
use Rattle.std.specs.List.{join_with_byte}
use Rattle.retire.specs.InRange.{IsInRange}
use Rattle.retire.specs.Log.{events_up_to, header, most_rows}
use Rattle.retire.specs.LogText.{log_text}
use Rattle.retire.specs.declared.event.Event.{Event}

-- A text is the end of a line, and then the rest. A line ends at a line feed, with a carriage return before it or none,
-- or at the end of the text.
abbrev pub EndsLine : List ℕ → List ℕ → Type 0
EndsLine text rest = (text ≡ 10 ∷ rest) ⊎ (text ≡ 13 ∷ 10 ∷ rest) ⊎ ((text ≡ []) × (rest ≡ []))

-- A text is a line of these fields with a comma between each two, and then the rest.
abbrev pub IsLine : List (List ℕ) → List ℕ → List ℕ → Type 0
IsLine fields text rest = (end : List ℕ) × (text ≡ join_with_byte 44 fields ++ end) × EndsLine end rest

-- A text is lines, one for each list of fields.
unfoldable pub AreLines : List (List (List ℕ)) → List ℕ → Type 0
AreLines [] text = text ≡ []
AreLines (fields ∷ rows) text = (rest : List ℕ) × IsLine fields text rest × AreLines rows rest

-- A text is the lines of rows from this number on, and no row has a fault where a log may have so many rows.
abbrev pub ArePlainRows : ℕ → ℕ → List ℕ → Type 0
ArePlainRows most row text =
    (rows : List (List (List ℕ))) × (events : List Event) × AreLines rows text ×
    (events_up_to most row rows ≡ Ok events)

-- A text is the header's line, and then the lines of rows with no fault. No field is quoted, since a quote is no digit.
abbrev pub IsPlainLog : List ℕ → Type 0
IsPlainLog text = (rest : List ℕ) × IsLine header text rest × ArePlainRows most_rows 1 rest

-- The text of a log in range is a plain log.
abbrev pub WrittenIsPlain : Type 0
WrittenIsPlain = (events : List Event) → All IsInRange events → length events ≤ most_rows → IsPlainLog (log_text events)
