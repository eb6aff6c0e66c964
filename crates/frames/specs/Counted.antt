-- What spans have: their messages, and how many bytes are of no message.
use Rattle.std.specs.Prelude.{ℕ, ◌+◌, List, [], ◌∷◌, length}
use Rattle.frames.specs.declared.span.Span.{Span}
use Rattle.frames.specs.declared.span.Span.TheVariants.{Frame, Bytes}
use Rattle.message.specs.Capture.{message_bytes}
use Rattle.message.specs.declared.message.Message.{Message}

-- How many bytes a span has.
abbrev pub span_size : Span → ℕ
span_size (Frame offset message) = length (message_bytes message)
span_size (Bytes offset count) = count

-- The messages that are taken.
abbrev pub messages_in : List Span → List Message
messages_in [] = []
messages_in (Frame offset message ∷ spans) = message ∷ messages_in spans
messages_in (Bytes offset count ∷ spans) = messages_in spans

-- How many bytes are of no message.
abbrev pub bytes_in : List Span → ℕ
bytes_in [] = 0
bytes_in (Frame offset message ∷ spans) = bytes_in spans
bytes_in (Bytes offset count ∷ spans) = count + bytes_in spans

-- How many runs they are in.
abbrev pub runs_in : List Span → ℕ
runs_in [] = 0
runs_in (Frame offset message ∷ spans) = runs_in spans
runs_in (Bytes offset count ∷ spans) = 1 + runs_in spans
