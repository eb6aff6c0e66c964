-- How much one packet reports, and how long its payload is.
use Rattle.std.specs.Prelude.{ℕ}

-- The most outcomes of branches that a packet reports: those of a full branch map.
abbrev pub most_outcomes : ℕ
most_outcomes = 31

-- The most bytes of a payload.
abbrev pub most_bytes : ℕ
most_bytes = 18
