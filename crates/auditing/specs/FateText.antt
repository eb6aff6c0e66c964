-- The texts of fates and faults.
use Rattle.std.specs.Prelude.{ℕ, ◌++◌, List, codes}
use Rattle.std.specs.Fmt.{decimal}
use Rattle.message.specs.FaultText.{demux_fault_text, message_fault_text}
use Rattle.message.specs.declared.fault.MessageFault.TheVariants.{BadHeader}
use Rattle.auditing.specs.declared.fate.Fate.{Fate}
use Rattle.auditing.specs.declared.fate.Fate.TheVariants.{Stranger, Changed, Repeat, Late, InOrder}
use Rattle.auditing.specs.declared.fault.SentFault.{SentFault}
use Rattle.auditing.specs.declared.fault.SentFault.TheVariants.{Unread, Misplaced, Memory}

-- What became of a message, as a word.
abbrev pub fate_text : Fate → List ℕ
fate_text Stranger = codes "stranger"
fate_text Changed = codes "changed"
fate_text Repeat = codes "repeat"
fate_text Late = codes "late"
fate_text InOrder = codes "in order"

-- Why SENT is refused, as a line of text. A header that is not valid names no message.
abbrev pub sent_fault_text : SentFault → List ℕ
sent_fault_text (Unread number BadHeader) = message_fault_text BadHeader
sent_fault_text (Unread number why) = (codes "message " ++ (decimal number ++ codes ": ")) ++ message_fault_text why
sent_fault_text (Misplaced number why) = (codes "message " ++ (decimal number ++ codes ": ")) ++ demux_fault_text why
sent_fault_text Memory = codes "out of memory"
