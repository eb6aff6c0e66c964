-- What is found is what is reported of messages that are compared in this way.
use Rattle.std.proofs.Common.{IfOk, subst, sym}
use Rattle.ffi.specs.AuditReported.{IsAudited}
use Rattle.ffi.proofs.path_all.audit.Goals as goal

pub returns-in-Numbers-clause-found : goal.returns-in-Numbers-clause-found
returns-in-Numbers-clause-found c =
    subst (λ how. IfOk c.audit_path.result (λ found. IsAudited how c.args.sent.now c.args.received.now found.rows.items
    found.arrivals.items found.lost.items found.runs.items found.end)) (sym c.in-Numbers.is) c.audit_path.ensures.found

pub returns-in-Payloads-clause-found : goal.returns-in-Payloads-clause-found
returns-in-Payloads-clause-found c =
    subst (λ how. IfOk c.audit_aligned.result (λ found. IsAudited how c.args.sent.now c.args.received.now
    found.rows.items found.arrivals.items found.lost.items found.runs.items found.end)) (sym c.in-Payloads.is)
    c.audit_aligned.ensures.found
