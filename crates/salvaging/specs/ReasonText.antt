-- The text of why a message is bad.
use Rattle.std.specs.Prelude.{ℕ, ◌++◌, List, codes}
use Rattle.std.specs.Fmt.{decimal}
use Rattle.decoder.specs.FaultText.{decode_fault_text}
use Rattle.message.specs.FaultText.{demux_fault_text}
use Rattle.message.specs.declared.fault.DemuxFault.TheVariants as demux
use Rattle.salvaging.specs.declared.reason.Reason.{Reason}
use Rattle.salvaging.specs.declared.reason.Reason.TheVariants as reason

-- Why a used message is bad, as a line of text: the text of a demultiplexer's or a decoder's fault, or which number of
-- its hart came after a packet that closes the trace.
abbrev pub reason_text : Reason → List ℕ
reason_text (reason.Packet why) = demux_fault_text (demux.Packet why)
reason_text (reason.Decode why) = decode_fault_text why
reason_text (reason.Closing next) = codes "closing, but number " ++ (decimal next ++ codes " came")
