-- How a capture begins that may be damaged, and where its frames are looked for.
use Rattle.std.specs.Prelude.{ℕ, ◌≡◌, List, Option, Some, None, drop, length}
use Rattle.frames.specs.Spans.{spans_from}
use Rattle.frames.specs.declared.span.Span.{Span}
use Rattle.message.specs.Header.{header_bytes}
use Rattle.message.specs.Version.{most_harts}
use Rattle.message.specs.declared.fault.MessageFault.{MessageFault}
use Rattle.message.specs.declared.header.Header.{Header}
use Rattle.message.specs.declared.header.Version.TheVariants.{Two}
use Rattle.captures.specs.NoMessage.{BeginsNoHeader}
use Rattle.captures.specs.Whole.{BeginsWith}

-- A valid header begins the bytes, or none does, since they do not begin with the mark. Or, with a fault, there is none
-- since the header that they begin is cut short or bad: the fault says which.
abbrev pub IsStart : List ℕ → Option Header → Option MessageFault → Type 0
IsStart bytes header None = (rest : List ℕ) × BeginsWith header bytes rest
IsStart bytes header (Some why) = (header ≡ None) × BeginsNoHeader bytes why

-- The harts of frames are below this: below the header's count, or without a header below the most harts of any
-- capture.
abbrev pub known_harts : Option Header → ℕ
known_harts None = most_harts Two
known_harts (Some header) = header.harts

-- The offset from which on frames are looked for: after the header, or that of the first byte.
abbrev pub first_place : Option Header → ℕ
first_place None = 0
first_place (Some header) = length (header_bytes header)

-- The frames of a capture that are taken, and the bytes between them, in order.
abbrev pub spans_of : Option Header → List ℕ → List Span
spans_of header bytes = spans_from (known_harts header) (first_place header) (drop (first_place header) bytes)
