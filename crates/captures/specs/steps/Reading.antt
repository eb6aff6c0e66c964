-- What is read of messages alone.
use Rattle.std.specs.Prelude.{ℕ, ◌≡◌, ◌++◌, All, List, Option, Some, None}
use Rattle.message.specs.Capture.{capture}
use Rattle.message.specs.Cut.{IsMessage}
use Rattle.message.specs.declared.fault.MessageFault.{MessageFault}
use Rattle.message.specs.declared.message.Message.{Message}
use Rattle.captures.specs.NoMessage.{BeginsNone}

-- The bytes are those of these messages.
abbrev pub AreRead : List ℕ → List Message → Type 0
AreRead bytes messages = All IsMessage messages × (bytes ≡ capture messages)

-- The bytes are those of these messages, after which there is no complete message, for this reason.
pub record AreCutOff (bytes : List ℕ) (messages : List Message) (why : MessageFault) : Type 0 where
  pub rest : List ℕ
  pub ranges : All IsMessage messages
  pub whole : bytes ≡ capture messages ++ rest
  pub stops : BeginsNone rest why

-- The bytes are those of these messages, up to the end or to the first place where there is no complete message, for
-- this reason.
abbrev pub AreReadUpTo : List ℕ → List Message → Option MessageFault → Type 0
AreReadUpTo bytes messages None = AreRead bytes messages
AreReadUpTo bytes messages (Some why) = AreCutOff bytes messages why
