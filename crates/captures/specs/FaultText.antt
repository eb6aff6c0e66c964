-- The texts of faults.
use Rattle.std.specs.Prelude.{ℕ, List, codes}
use Rattle.message.specs.FaultText.{demux_fault_text, message_fault_text}
use Rattle.decoder.specs.FaultText.{decode_fault_text}
use Rattle.captures.specs.declared.capture_reading.ReadFault.{ReadFault}
use Rattle.captures.specs.declared.capture_reading.ReadFault.TheVariants as unread
use Rattle.captures.specs.declared.outcome.CaptureFault.{CaptureFault}
use Rattle.captures.specs.declared.outcome.CaptureFault.TheVariants.{Message, Demux, Decode, Mode}

-- Why decoding a capture stops before its end, as a line of text.
abbrev pub capture_fault_text : CaptureFault → List ℕ
capture_fault_text (Message fault) = message_fault_text fault
capture_fault_text (Demux fault) = demux_fault_text fault
capture_fault_text (Decode fault) = decode_fault_text fault
capture_fault_text Mode = codes "open of another mode"

-- Why a capture is not read whole, as a line of text: the number of the message is not in it.
abbrev pub read_fault_text : ReadFault → List ℕ
read_fault_text (unread.Message number fault) = message_fault_text fault
read_fault_text unread.Memory = codes "out of memory"
