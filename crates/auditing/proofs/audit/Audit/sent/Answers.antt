-- The payload is the one of the definition, by the law on what is kept.
use Rattle.std.proofs.Common.{◌≡◌, ◌<◌, ◌∙◌, Some, length, slice_get, ap, sym, arith}
use Rattle.std.proofs.lemmas.Bool.{ltb-true}
use Rattle.std.proofs.lemmas.Option.{slice_get-get_or}
use Rattle.auditing.proofs.PayloadLemmas.{payload_kept, payload_none}
use Rattle.auditing.specs.Ledger.{Ledger}
use Rattle.auditing.proofs.audit.Audit.sent.Goals as goal

pub returns-in-Some : goal.returns-in-Some
returns-in-Some g c = λ sent received audits.
    let hart = c.args.hart in
    let own = c.in-Some.own.now in
    let harts = c.deref.result.now in
    let found = c.in-Some.ensures.lookup in
    let within : c.from.result < length harts = ltb-true c.from.result (length harts) (sym found.0) in
    let at : slice_get c.args.self.now.harts hart ≡ Some own =
    ap (λ (l : Ledger). slice_get l.harts hart) (sym c.self.view_is)
    ∙ (λ i. slice_get (sym c.deref.ensures.value i) (sym c.from.ensures i))
    ∙ slice_get-get_or harts c.from.result own within ∙ ap Some (sym found.1) in
    c.payload.ensures ∙ payload_kept sent hart c.args.number own.payloads (audits.payloads hart own at)

pub returns-in-None : goal.returns-in-None
returns-in-None g c = λ sent received audits.
    let hart = c.args.hart in
    let past = c.in-None.ensures.lookup.3 in
    let count = ap (λ (l : Ledger). length l.harts) c.self.view_is in
    let value = ap length c.deref.ensures.value in
    let from = c.from.ensures in
    payload_none sent hart c.args.number (audits.others hart (omega (arith, past, count, value, from)))
