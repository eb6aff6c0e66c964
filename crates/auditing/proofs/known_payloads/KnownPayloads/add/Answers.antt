-- One payload more is kept, or none is: by lemmas, which no search finds.
use Rattle.std.proofs.Common.{◌∙◌, ◌==◌, ◌&&◌, ◌||◌, ◌++◌, ◌∷◌, [], ap, sym}
use Rattle.std.specs.Str.{bytes_eq}
use Rattle.payload.specs.Same.{known_by}
use Rattle.auditing.proofs.Recognised.{keeps_more, keeps_none, ok_then}
use Rattle.auditing.specs.PayloadSights.{KnownSent, has_key}
use Rattle.auditing.proofs.known_payloads.KnownPayloads.add.Goals as goal

pub returns-then-self-clause-kept : goal.returns-then-self-clause-kept
returns-then-self-clause-kept g c = λ framed how sent keeps.
    keeps_none framed how sent (sent ++ c.args.message.now ∷ []) c.args.self.now keeps
    (sym (ap (λ (k : KnownSent). k.framed) c.self.view_is) ∙ c.if-self.true)

pub returns-clause-kept : goal.returns-clause-kept
returns-clause-kept g c = λ framed how sent keeps.
    let old = c.args.self.now in
    let m = c.args.message.now in
    ok_then c.insert.result
    (λ has. keeps_more framed how sent m old c.insert.new.self keeps c.insert.ensures.by c.insert.ensures.framed
    (λ other bytes.
    has other bytes
    ∙ ap (λ its. ((m.hart == other) && bytes_eq its bytes) || has_key other bytes old.keys)
    (c.known-payload.ensures ∙ ap (λ (k : KnownSent). known_by k.by m.payload) c.self.view_is)))
    c.insert.ensures.has
