-- What is found is handed out, or it is reported why SENT is refused.
use Rattle.std.proofs.Common.{◌∙◌, refl, sym}
use Rattle.ffi.specs.AuditReported.{Found, Refused}
use Rattle.ffi.proofs.path_all.tracebench_audit_all.Goals as goal

pub returns-in-Ok : goal.returns-in-Ok
returns-in-Ok c =
    Found c.in-Some.how (sym c.compared_by.ensures ∙ c.in-Some.is) c.in-Ok.found.rows.items c.in-Ok.found.arrivals.items
    c.in-Ok.found.lost.items c.in-Ok.found.runs.items c.in-Ok.ensures.found c.hand_out_path.ensures refl

pub returns-in-Err : goal.returns-in-Err
returns-in-Err c =
    Refused c.in-Some.how (sym c.compared_by.ensures ∙ c.in-Some.is) c.in-Err.why c.in-Err.ensures.refused
    c.sent_status.ensures c.sent_place.ensures refl refl
