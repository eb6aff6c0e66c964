-- The texts of faults.
use Rattle.std.specs.Prelude.{ℕ, ◌++◌, List, codes}
use Rattle.std.specs.Fmt.{decimal}
use Rattle.payload.specs.FaultText.{pack_fault_text}
use Rattle.message.specs.declared.fault.MessageFault.{MessageFault}
use Rattle.message.specs.declared.fault.MessageFault.TheVariants.{Short, BadLength, Read, Write, BadHeader}
use Rattle.message.specs.declared.fault.DemuxFault.{DemuxFault}
use Rattle.message.specs.declared.fault.DemuxFault.TheVariants.{Stranger, Repeat, Gap, AfterClose, Packet}

-- Why a message is not read or not written, as a line of text.
abbrev pub message_fault_text : MessageFault → List ℕ
message_fault_text Short = codes "the capture ends inside a message"
message_fault_text BadLength = codes "payload length is not 1 to 18"
message_fault_text Read = codes "cannot be read"
message_fault_text Write = codes "cannot be written"
message_fault_text BadHeader = codes "capture header is not valid"

-- Why a demultiplexer does not accept a message, as a line of text.
abbrev pub demux_fault_text : DemuxFault → List ℕ
demux_fault_text Stranger = codes "stranger"
demux_fault_text Repeat = codes "repeat"
demux_fault_text (Gap expected) = codes "gap, expected number " ++ decimal expected
demux_fault_text AfterClose = codes "after close"
demux_fault_text (Packet why) = codes "bad packet: " ++ pack_fault_text why
