-- Messages that a demultiplexer accepts, one after the other.
use Rattle.std.specs.Prelude.{ℕ, List, [], ◌∷◌, IsOk, replicate}
use Rattle.message.specs.Accepting.{accepting, harts_after}
use Rattle.message.specs.Harts.{Harts, newcomer}
use Rattle.message.specs.declared.message.Message.{Message}

-- So many harts of which nothing was accepted.
abbrev pub newcomers : ℕ → Harts
newcomers harts = replicate harts newcomer

-- What is expected after messages, taken one after the other.
abbrev pub expected_after : Harts → List Message → Harts
expected_after expected [] = expected
expected_after expected (message ∷ messages) = expected_after (harts_after expected message) messages

-- Each of the messages is accepted, one after the other.
abbrev pub AreAccepted : Harts → List Message → Type 0
AreAccepted expected [] = Unit {0}
AreAccepted expected (message ∷ messages) =
    IsOk (accepting expected message) × AreAccepted (harts_after expected message) messages
