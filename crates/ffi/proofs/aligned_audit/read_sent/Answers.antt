-- The messages that are read are those that were checked: by how captures are read.
use Rattle.std.proofs.Common.{subst, sym}
use Rattle.auditing.specs.Sent.{IsSent}
use Rattle.ffi.proofs.aligned_audit.read_sent.Goals as goal

pub returns-in-Ok-read_messages-clause-read : goal.returns-in-Ok-read_messages-clause-read
returns-in-Ok-read_messages-clause-read c =
    let checked = c.in-Ok.ensures.audits in
    let messages = c.in-Ok-read_messages.whole.messages.items in
    let back = c.in-Ok-read_messages.ensures.reads_back c.in-Ok.path.header checked.0 checked.1.whole in
    subst (λ header. IsSent c.args.sent.now header messages) (sym c.header-header.ensures)
    (subst (IsSent c.args.sent.now c.in-Ok.path.header) (sym back.1) checked.1)
