-- How many messages wait at once.
use Rattle.std.specs.Prelude.{ℕ}

-- The most messages that may wait at once: a hart sent them, and they are not yet taken.
abbrev pub most_capacity : ℕ
most_capacity = 65536
