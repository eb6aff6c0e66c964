-- The messages of a hart's payloads.
use Rattle.std.specs.Prelude.{ℕ, ◌+◌, List, [], ◌∷◌}
use Rattle.message.specs.declared.message.Message.{Message}

-- The messages of a hart with these payloads, numbered from this number on.
abbrev pub messages_from : ℕ → ℕ → List (List ℕ) → List Message
messages_from hart number [] = []
messages_from hart number (payload ∷ payloads) =
    record { hart = hart; number = number; payload = payload } ∷ messages_from hart (number + 1) payloads
