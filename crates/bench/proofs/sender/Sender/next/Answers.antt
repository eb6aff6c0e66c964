-- The source's clauses hold for any log, and the prover does not pick the sender's own.
use Rattle.std.proofs.Common.{◌≡◌, ◌+◌, sym, ap, ◌∙◌, arith}
use Rattle.encoder.specs.SourceAt.{number_behind}
use Rattle.bench.proofs.SenderNext.{few_numbers, number_at, source_at, stands_behind}
use Rattle.bench.proofs.sender.Sender.next.Goals as goal

pub returns-in_default-clause-goes_on : goal.returns-in_default-clause-goes_on
returns-in_default-clause-goes_on g c = λ period mode count log legal is.
    let at = source_at period mode count log c.args.self.now is in
    stands_behind period mode count log c.next.new.self c.args.self.now.number c.next.result _
    (c.next.ensures.given period count mode log at) (c.next.ensures.goes_on period count mode log at)
    (number_at period mode count log c.args.self.now is ∙ sym (ap (number_behind count) c.in_default.is))

pub returns-clause-goes_on : goal.returns-clause-goes_on
returns-clause-goes_on g c = λ period mode count log legal is.
    let at = source_at period mode count log c.args.self.now is in
    let given = c.next.ensures.given period count mode log at in
    let few = few_numbers period mode count log legal c.in-Some.payload (sym given ∙ c.in-Some.is) in
    let number = number_at period mode count log c.args.self.now is in
    let next : c.saturating_add-self.result ≡ count + 1 = omega (arith, few, number, c.saturating_add-self.ensures) in
    stands_behind period mode count log c.next.new.self c.saturating_add-self.result c.next.result _ given
    (c.next.ensures.goes_on period count mode log at) (next ∙ sym (ap (number_behind count) c.in-Some.is))
