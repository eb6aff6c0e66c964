-- What was found, or why nothing was, is reported: by the constructor for each.
use Rattle.std.proofs.Common.{ℕ, ap, refl, subst, ◌∙◌}
use Rattle.ffi.specs.Explained.{Handed, Refused}
use Rattle.ffi.specs.Handed.{IsHandedOut}
use Rattle.ffi.specs.Statuses.{fault_row}
use Rattle.ffi.specs.declared.explaining_log.ExplainEnd.{ExplainEnd}
use Rattle.ffi.proofs.explaining_log.report_explain.Goals as goal

-- The end that is reported.
abbrev reported : ℕ → ℕ → ExplainEnd
reported row fault = record { row = row; fault = fault }

pub returns-in-Ok : goal.returns-in-Ok
returns-in-Ok c =
    Handed c.in-Ok.explained.text.items c.in-Ok.ensures
    (subst (λ bytes. IsHandedOut bytes c.hand_out.result c.hand_out.new.wanted c.args.buffer.now c.hand_out.new.buffer)
    c.as_slice.ensures.value c.hand_out.ensures)

pub returns-in-Err : goal.returns-in-Err
returns-in-Err c =
    Refused c.in-Err.fault c.in-Err.ensures c.status-status.ensures
    (ap (λ row. reported row c.status-status.result) c.row.ensures ∙ ap (reported (fault_row c.in-Err.fault)) c.status-status.ensures)
    refl refl
