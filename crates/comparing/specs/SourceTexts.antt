-- The text of the message that a row comes from.
use Rattle.std.specs.Prelude.{ℕ, ◌-◌, ◌++◌, List, [], Option, Some, None, codes}
use Rattle.std.specs.Fmt.{decimal}
use Rattle.captures.specs.FaultText.{capture_fault_text}
use Rattle.captures.specs.Offsets.{offset_text}
use Rattle.captures.specs.declared.outcome.CaptureFault.{CaptureFault}
use Rattle.captures.specs.declared.outcome.CaptureFault.TheVariants.{Message}
use Rattle.listing.specs.EffectText.{waits_text}
use Rattle.message.specs.FaultText.{message_fault_text}
use Rattle.message.specs.declared.fault.MessageFault.TheVariants.{BadHeader}
use Rattle.comparing.specs.declared.source.RowSource.{RowSource}
use Rattle.comparing.specs.declared.source.RowSource.TheVariants.{Closes, Last, Nothing, Settles, Stops}
use Rattle.comparing.specs.declared.source.SourceMessage.{SourceMessage}

-- A message: how many come before it, its number, and where it is in the capture.
abbrev pub message_at : SourceMessage → List ℕ
message_at one =
    codes "message " ++ (decimal one.place ++
    (codes ", number " ++ (decimal one.number ++ (codes " at " ++ offset_text one.offset))))

-- The rows of so many events, the last of which is this row.
abbrev pub settled_text : ℕ → ℕ → List ℕ
settled_text rows added =
    codes ", settles rows " ++ (decimal (rows - (added - 1)) ++ (codes " to " ++ decimal rows))

-- The number of the message whose packet waited, if one did.
abbrev pub waited_text : Option ℕ → List ℕ
waited_text None = []
waited_text (Some number) = codes ", number " ++ (decimal number ++ codes " waited")

-- The text of the fault of a capture at the message with this number. That of a bad header names no message.
abbrev pub stop_text : ℕ → CaptureFault → List ℕ
stop_text place (Message BadHeader) = message_fault_text BadHeader
stop_text place why = codes "message " ++ (decimal place ++ (codes ": " ++ capture_fault_text why))

-- Where decoding stops, if it does.
abbrev pub stopped_text : Option (ℕ × CaptureFault) → List ℕ
stopped_text None = []
stopped_text (Some stop) = codes ", stopped: " ++ stop_text stop.0 stop.1

-- Where a row comes from, where decoding stops there.
abbrev pub source_text : Option (ℕ × CaptureFault) → RowSource → List ℕ
source_text stop (Settles one rows added waited) = message_at one ++ (settled_text rows added ++ waited_text waited)
source_text stop (Closes one) = message_at one ++ codes ", closes"
source_text stop (Stops one why waited) =
    message_at one ++ (codes ", stops: " ++ (capture_fault_text why ++ waited_text waited))
source_text stop (Last one waits) =
    message_at one ++ (codes ", is the last" ++ (waits_text waits ++ stopped_text stop))
source_text stop Nothing = codes "no message" ++ stopped_text stop
