-- The count of strangers is exact, by the law on counts.
use Rattle.std.proofs.Common.{◌<◌, ◌^◌, ◌∙◌, ap, length, arith}
use Rattle.auditing.proofs.TallyLemmas.{strangers_exact}
use Rattle.auditing.proofs.KnownLemmas.{known-count}
use Rattle.auditing.specs.Known.{known_all}
use Rattle.auditing.specs.Ledger.{Ledger}
use Rattle.auditing.proofs.audit.Audit.strangers.Goals as goal

pub returns : goal.returns
returns g c = λ sent received audits few.
    let how = c.args.self.now.by in
    let same_count = known-count how received in
    let few_known : length (known_all how received) < 2 ^ 64 = omega (arith, few, same_count) in
    ap (λ (l : Ledger). l.strangers) c.self.view_is ∙ audits.known.strangers ∙ strangers_exact (known_all how sent) (known_all how received) few_known
