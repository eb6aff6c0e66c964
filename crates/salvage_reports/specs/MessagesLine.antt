-- The line of a count of messages.
use Rattle.std.specs.Prelude.{ℕ, ◌++◌, List, codes}
use Rattle.std.specs.Fmt.{decimal}

-- The line of a count of messages, after the name of what they are.
abbrev pub messages_line : List ℕ → ℕ → List ℕ
messages_line name count = name ++ (codes ": " ++ (decimal count ++ codes " messages\n"))
