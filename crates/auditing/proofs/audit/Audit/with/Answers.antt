-- A capture is whole or it is not: by a law on captures, which no tactic finds.
use Rattle.std.proofs.Common.{◌≡◌}
use Rattle.std.proofs.lemmas.Result.{IfErr-weaker}
use Rattle.auditing.specs.Sent.{IsSentFault}
use Rattle.auditing.specs.declared.fault.SentFault.TheVariants as fault
use Rattle.auditing.proofs.OneFault.{only_memory}
use Rattle.auditing.proofs.audit.Audit.with.Goals as goal

pub returns-clause-memory : goal.returns-clause-memory
returns-clause-memory g c = λ header sent is.
    let bytes = c.args.bytes.now in
    IfErr-weaker c.by_header.result (IsSentFault bytes) (λ why. why ≡ fault.Memory)
    (λ why at. only_memory bytes header sent why is at) c.by_header.ensures.fault
