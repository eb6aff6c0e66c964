-- The payload that SENT has with a hart and a number.
use Rattle.std.specs.Prelude.{ℕ, if◌then◌else◌, List, [], ◌∷◌, Option, Some, None}
use Rattle.message.specs.declared.message.Message.{Message}
use Rattle.auditing.specs.Fates.{is_numbered}

-- The payload of the message with this hart and this number, if there is one.
abbrev pub payload_sent : List Message → ℕ → ℕ → Option (List ℕ)
payload_sent [] hart number = None
payload_sent (message ∷ messages) hart number =
    if is_numbered hart number message then Some message.payload else payload_sent messages hart number
