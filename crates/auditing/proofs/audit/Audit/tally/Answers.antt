-- The tally is the one of the definition, by the law on what is kept.
use Rattle.std.proofs.Common.{◌<◌, ◌^◌, ◌∙◌, length, arith}
use Rattle.auditing.proofs.WholeTallies.{tally_is}
use Rattle.auditing.proofs.KnownLemmas.{known-at, known-count, own-at}
use Rattle.auditing.specs.Known.{known_all}
use Rattle.auditing.specs.Ledger.{known_own}
use Rattle.auditing.proofs.audit.Audit.tally.Goals as goal

pub returns : goal.returns
returns g c = λ sent received audits few.
    let how = c.args.self.now.by in
    let same_count = known-count how received in
    let few_known : length (known_all how received) < 2 ^ 64 = omega (arith, few, same_count) in
    let hart = c.args.hart in
    let own = c.index-own.result.now in
    let at = own-at _ c.args.self.now hart own c.self.view_is c.requires.known c.index-own.ensures in
    c.tally.ensures ∙ tally_is (known_all how sent) (known_all how received) hart (known_own how own)
    (audits.known.each hart (known_own how own) (known-at how c.args.self.now.harts hart own at)) few_known
