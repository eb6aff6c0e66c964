-- The runs are those of the flags, by the law on what is kept.
use Rattle.std.proofs.Common.{◌∙◌, ap}
use Rattle.auditing.proofs.TallyLemmas.{runs_are}
use Rattle.auditing.proofs.KnownLemmas.{known-at, own-at}
use Rattle.auditing.specs.Known.{known_all}
use Rattle.auditing.specs.Ledger.{HartLedger, known_own}
use Rattle.auditing.specs.Losing.{runs_of}
use Rattle.auditing.specs.Unset.{lost_in}
use Rattle.auditing.proofs.audit.Audit.lost.Goals as goal

pub returns : goal.returns
returns g c = λ sent received audits.
    let how = c.args.self.now.by in
    let hart = c.args.hart in
    let own = c.index-own.result.now in
    let at = own-at _ c.args.self.now hart own c.self.view_is c.requires.known c.index-own.ensures in
    c.new.ensures
    ∙ ap (λ flags. runs_of (lost_in 0 flags))
    (c.as_slice.ensures.value ∙ ap (λ (h : HartLedger). h.came) c.own.view_is)
    ∙ runs_are (known_all how sent) (known_all how received) hart (known_own how own)
    (audits.known.each hart (known_own how own) (known-at how c.args.self.now.harts hart own at))
