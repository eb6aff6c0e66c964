-- Messages and runs of bytes where they are in the bytes.
use Rattle.std.specs.Prelude.{◌≤◌, ⊤, length}
use Rattle.frames.specs.declared.span.Span.{Span}
use Rattle.frames.specs.declared.span.Span.TheVariants as span
use Rattle.message.specs.declared.message.Message.{Message}
use Rattle.payload.specs.Limits.{most_bytes}
use Rattle.frames.specs.declared.borrowed_span.BorrowedMessage.{BorrowedMessage}
use Rattle.frames.specs.declared.borrowed_span.BorrowedSpan.{BorrowedSpan}
use Rattle.frames.specs.declared.borrowed_span.BorrowedSpan.TheVariants as passage

-- The message.
abbrev pub message_of : BorrowedMessage → Message
message_of own = record { hart = own.hart; number = own.number; payload = own.payload.now }

-- The span.
abbrev pub span_of : BorrowedSpan → Span
span_of (passage.Message offset own) = span.Frame offset (message_of own)
span_of (passage.Bytes offset count) = span.Bytes offset count

-- The payload of a message has 1 to 18 bytes.
abbrev pub HasPayload : BorrowedSpan → Type 0
HasPayload (passage.Message offset own) = (1 ≤ length own.payload.now) × (length own.payload.now ≤ most_bytes)
HasPayload (passage.Bytes offset count) = ⊤
