-- The text of harts that SENT has not: the equation goes into the text, where no tactic puts it.
use Rattle.std.proofs.Common.{sym, subst}
use Rattle.std.specs.Fmt.{HasWritten, IsPlainFormatter}
use Rattle.std.specs.Result.{IsOk}
use Rattle.path_commands.specs.FaultText.{path_reason_text}
use Rattle.path_commands.specs.declared.reason.PathReason.{PathReason}
use Rattle.path_commands.proofs.reason.PathReasonDisplay.fmt.Goals as goal

pub returns-in-NoHart-clause-writes : goal.returns-in-NoHart-clause-writes
returns-in-NoHart-clause-writes g c =
    subst
    (λ (why : PathReason). IsPlainFormatter {W = g.row.W.Denot} c.args.f.now → IsOk c.write-in-NoHart.result
    → HasWritten {W = g.row.W.Denot} g.W.Write.write_str_gives c.args.f.now (path_reason_text why)
    c.write-in-NoHart.new.self) (sym c.in-NoHart.is) c.write-in-NoHart.ensures.writes
