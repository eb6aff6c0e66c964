-- What `audit` prints, and how it ends.
use Rattle.std.specs.Prelude.{◌≡◌, ◌⊎◌, ⊤, ℕ, Bool, true, false, List, Option, Some, None, Result, Ok, Err}
use Rattle.std.specs.Io.KnownBytes.{Keeps}
use Rattle.auditing.specs.Sent.{harts_of}
use Rattle.message.specs.declared.range.HartRange.{HartRange}
use Rattle.command_inputs.specs.declared.words.Audit.{Audit}
use Rattle.command_inputs.specs.declared.words.Format.{Format}
use Rattle.command_inputs.specs.Finding.{After}
use Rattle.command_inputs.specs.Found.{IsFormat, IsRead}
use Rattle.log_streams.specs.Known.{Content}
use Rattle.command_inputs.specs.Begun.{BeginsPrinted}
use Rattle.command_inputs.specs.OnlyHarts.{IsOnly, asked_harts}
use Rattle.command_inputs.specs.Order.{format_or_only_fault}
use Rattle.command_inputs.specs.Printed.{First}
use Rattle.path_commands.specs.ReceivedCapture.{ReceivedCapture, IsReceivedCapture, is_whole_result}
use Rattle.path_commands.specs.Faults.{Fault, Meaning, Once, Printed}
use Rattle.path_commands.specs.Followed.{Follows, IsLive, live_at}
use Rattle.path_commands.specs.OnlyHarts.{HasHart}
use Rattle.path_commands.specs.Rows.{audit_rows, report_of}
use Rattle.path_commands.specs.Sides.{IsFoundSent, Sent, by_packets, end_of_audit}
use Rattle.path_commands.specs.Unnumbered.{WritesAligned}

-- What became of the messages of these harts of SENT in these bytes of RECEIVED is written in this format, by their
-- numbers.
pub record WritesNumbered (format : Format) (asked : Audit) (harts : HartRange) (sent : Sent) (bytes : List ℕ)
    (printed : Printed) : Type 0 where
  pub came : ReceivedCapture
  pub is_came : IsReceivedCapture (by_packets asked.packets) sent.messages bytes came
  pub text : printed.text ≡ audit_rows (by_packets asked.packets) (report_of format asked harts) sent came
  pub ended : printed.ended
      ≡ end_of_audit asked.received came.fault (is_whole_result (by_packets asked.packets) harts sent came)

-- SENT is read and checked.
abbrev pub IsSentOf : Content → Audit → Result Sent Fault → Type 0
IsSentOf content asked = After (IsRead content asked.sent) (IsFoundSent asked.sent)

-- Whether SENT, which has so many harts, has one of these harts is looked at, and then RECEIVED is read.
abbrev pub IsReceivedOf : Content → Audit → HartRange → ℕ → Result (List ℕ) Fault → Type 0
IsReceivedOf content asked harts count =
    After (HasHart asked.sent asked.only harts count) (λ _. IsRead content asked.received)

-- RECEIVED is read where SENT has one of these harts, and this is written of both.
abbrev pub AuditsSent : (Sent → List ℕ → Printed → Type 0) → Content → Audit → HartRange → Sent → Printed → Type 0
AuditsSent Writes content asked harts sent =
    First (IsReceivedOf content asked harts (harts_of sent.header sent.messages)) (Writes sent)

-- SENT is read first, and then RECEIVED. Where there is no fault, this is written of both.
abbrev pub AuditsBy : (Sent → List ℕ → Printed → Type 0) → Content → Audit → HartRange → Printed → Type 0
AuditsBy Writes content asked harts = First (IsSentOf content asked) (AuditsSent Writes content asked harts)

-- What became of the messages of these harts is written, by their numbers or by their payloads alone.
abbrev pub Writes : Format → Bool → Audit → HartRange → Sent → List ℕ → Printed → Type 0
Writes format false asked harts = WritesNumbered format asked harts
Writes format true asked harts = WritesAligned format asked harts

-- SENT and RECEIVED are read, and what became of the messages of these harts is written in the format that is asked
-- for.
abbrev pub AuditsHarts : Content → Audit → HartRange → Printed → Type 0
AuditsHarts content asked harts =
    AuditsBy (Writes asked.format asked.unnumbered asked harts) content asked harts

-- Messages are compared while they come, or once both captures are read.
abbrev pub AuditsAs : Bool → Content → Audit → HartRange → Printed → Type 0
AuditsAs true content asked harts = Follows content asked
AuditsAs false content asked harts = AuditsHarts content asked harts

-- Whether what is asked for goes together is looked at first.
abbrev pub AuditsAsked : Content → Audit → HartRange → Printed → Type 0
AuditsAsked content asked harts = First (IsLive asked) (λ _. AuditsAs asked.live content asked harts)

-- The format is looked at, and then the harts that are asked for, and whether what is asked for goes together. Then SENT is
-- read and checked, and RECEIVED is read. Where there is no fault, what became of the messages is written in that format:
-- by their numbers, or as it is asked, by their payloads alone. Or as it is asked, both are read side by side.
abbrev pub Audits : Content → Audit → Printed → Type 0
Audits content asked =
    First (IsFormat asked.format) (λ _. First (IsOnly asked.only) (λ harts. AuditsAsked content asked harts))

-- `audit` writes once it has SENT, which is whole and has one of the harts that are asked for, and RECEIVED.
abbrev pub CanAuditHarts : Content → Audit → HartRange → Type 0
CanAuditHarts content asked harts =
    Once (IsSentOf content asked) (λ sent.
    Once (IsReceivedOf content asked harts (harts_of sent.header sent.messages)) (λ _. ⊤))

-- While messages come it may write once what is asked for goes together.
abbrev pub CanAuditAs : Bool → Content → Audit → HartRange → Type 0
CanAuditAs true content asked harts = ⊤
CanAuditAs false content asked harts = CanAuditHarts content asked harts

abbrev pub CanAuditAsked : Content → Audit → HartRange → Type 0
CanAuditAsked content asked harts = Once (IsLive asked) (λ _. CanAuditAs asked.live content asked harts)

abbrev pub CanAudit : Content → Audit → Type 0
CanAudit content asked = Once (IsOnly asked.only) (CanAuditAsked content asked)

-- The first fault, if there is one, or else that of what was found.
abbrev pub fault_or : Option Fault → Result (Unit {0}) Fault → Option Fault
fault_or (Some why) found = Some why
fault_or None (Err why) = Some why
fault_or None (Ok done) = None

-- The fault that is found without the files: of the format, of the harts, or of what does not go together.
abbrev pub early_fault : Audit → Option Fault
early_fault asked = fault_or (format_or_only_fault asked.format (asked_harts asked.only)) (live_at asked)

-- What `audit` means. While messages come lines are written before an allocation fails.
abbrev pub audit_meaning : Audit → Meaning
audit_meaning asked = record {
  early = early_fault asked;
  Prints = λ content. Audits content asked;
  CanWrite = λ content. CanAudit content asked;
  Begins = λ content old new. Keeps old new ⊎ ((asked.live ≡ true) × BeginsPrinted (Audits content asked) old new);
  WritesInParts = asked.live ≡ true;
  Cuts = λ content. Audits content asked;
}
