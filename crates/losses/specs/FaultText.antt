-- The text of a fault.
use Rattle.std.specs.Prelude.{ℕ, List, codes}
use Rattle.decoder.specs.FaultText.{decode_fault_text}
use Rattle.message.specs.FaultText.{demux_fault_text}
use Rattle.losses.specs.declared.fault.LossyFault.{LossyFault}
use Rattle.losses.specs.declared.fault.LossyFault.TheVariants as fault

-- Why messages are not collected, as a line of text: the fault of the demultiplexer or of the decoder, without the
-- place of the message, or that an allocation failed.
abbrev pub lossy_fault_text : LossyFault → List ℕ
lossy_fault_text (fault.Demux place why) = demux_fault_text why
lossy_fault_text (fault.Decode place why) = decode_fault_text why
lossy_fault_text fault.Memory = codes "out of memory"
