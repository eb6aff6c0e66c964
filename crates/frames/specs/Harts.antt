-- How many harts a capture has that may be damaged.
use Rattle.std.specs.Prelude.{ℕ, ◌+◌, List, [], ◌∷◌, Option, Some, None, max}
use Rattle.frames.specs.declared.span.Span.{Span}
use Rattle.frames.specs.declared.span.Span.TheVariants.{Frame, Bytes}
use Rattle.message.specs.declared.header.Header.{Header}
use Rattle.frames.specs.Start.{spans_of}

-- The harts from 0 to the highest one of a frame, and hart 0 at least: how many they are.
abbrev pub harts_in : List Span → ℕ
harts_in [] = 1
harts_in (Frame place message ∷ spans) = max (message.hart + 1) (harts_in spans)
harts_in (Bytes place count ∷ spans) = harts_in spans

-- The count of harts: the header's; without a header the one that is asked for; and where none is, up to the highest
-- hart of a frame.
abbrev pub harts_counted : Option ℕ → Option Header → List ℕ → ℕ
harts_counted asked (Some header) bytes = header.harts
harts_counted (Some harts) None bytes = harts
harts_counted None None bytes = harts_in (spans_of None bytes)
