-- What a capture begins with.
use Rattle.std.specs.Prelude.{ℕ, List, Option, Some, None}
use Rattle.std.specs.Io.KnownBytes.{Consumes, IsAtEnd, Keeps}
use Rattle.message.specs.Capture.{message_bytes}
use Rattle.message.specs.Cut.{IsMessage}
use Rattle.message.specs.Header.{IsHeader, header_bytes}
use Rattle.message.specs.declared.header.Start.{Start}
use Rattle.message.specs.declared.header.Start.TheVariants.{Version2, Version1}

-- This was read of what remained: a header, or the first message, or nothing where nothing remained.
abbrev pub IsStart : Option (List ℕ) → Option (List ℕ) → Start → Type 0
IsStart old new (Version2 header) = IsHeader header × Consumes old new (header_bytes header)
IsStart old new (Version1 (Some message)) = IsMessage message × Consumes old new (message_bytes message)
IsStart old new (Version1 None) = IsAtEnd old × Keeps old new
