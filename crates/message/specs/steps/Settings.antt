-- What follows the mark of a header.
use Rattle.std.specs.Prelude.{ℕ, ◌≢◌, ◌≤◌, ◌++◌, List, length}
use Rattle.message.specs.Header.{IsHeader, setting_bytes}
use Rattle.message.specs.declared.header.Header.{Header}

-- The bytes are at least as many as the settings of a header, and do not begin with those of one.
abbrev pub AreBadSettings : List ℕ → Type 0
AreBadSettings bytes =
    (5 ≤ length bytes) × ((header : Header) (rest : List ℕ) → IsHeader header → bytes ≢ setting_bytes header ++ rest)
