-- The source's clauses hold for any log and any number, and the prover does not pick this one's.
use Rattle.std.proofs.Common.{◌≡◌, ◌≤◌, Some, slice_get, sym, ap, ◌∙◌, arith, length, subst}
use Rattle.encoder.specs.Payloads.{payloads}
use Rattle.encoder.specs.SourceAt.{IsAt, number_behind}
use Rattle.output.proofs.Beginnings.{whole_begun}
use Rattle.captures.proofs.MessageTexts.{few_payloads, next_begun, written_more, written_all, written_through}
use Rattle.captures.proofs.encoding.encode_hart.Goals.{After-write}
use Rattle.captures.proofs.encoding.encode_hart.Goals as goal

module _ (g : _) (c : After-write g) where
  -- The payload is the one with this number.
  found : slice_get (payloads c.args.period c.args.mode c.args.log.now) c.loop-number.number ≡ Some c.in-Some.payload
  found =
      sym (c.next.ensures.given c.args.period c.loop-number.number c.args.mode c.args.log.now c.loop-number.invariant.0)
      ∙ c.in-Some.is

pub loop-number-preserved : goal.loop-number-preserved
loop-number-preserved g c =
    let period = c.args.period in
    let mode = c.args.mode in
    let log = c.args.log.now in
    let number = c.loop-number.number in
    let at = c.loop-number.invariant.0 in
    let is = found g (goal.at.loop-number-preserved g c).After-write in
    let on = c.next.ensures.goes_on period number mode log at in (
      subst (λ result. IsAt period mode log (number_behind number result) c.next.new.self) c.in-Some.is on,
      written_more g.F.Form.text (g.W.Write.contents c.args.sink.now) (g.W.Write.contents c.loop-number.sink)
          (g.W.Write.contents c.write.new.sink)
          c.args.hart number (payloads period mode log) c.in-Some.payload is c.loop-number.invariant.1
          c.in_ok-write.ensures.text,
    )

pub returns-in_default-clause-text : goal.returns-in_default-clause-text
returns-in_default-clause-text g c =
    let none =
    sym (c.next.ensures.given c.args.period c.loop-number.number c.args.mode c.args.log.now c.loop-number.invariant.0)
    ∙ c.in_default.is in
    written_through g.F.Form.text (g.W.Write.contents c.args.sink.now) (g.W.Write.contents c.loop-number.sink)
    c.args.hart c.loop-number.number (payloads c.args.period c.args.mode c.args.log.now) none
    c.loop-number.invariant.1

pub returns-clause-text : goal.returns-clause-text
returns-clause-text g c =
    let all = payloads c.args.period c.args.mode c.args.log.now in
    let few = few_payloads c.args.period c.args.mode c.args.log.now in
    let same = ap length c.events.ensures.events in
    let over : length all ≤ c.loop-number.number = omega (arith, few, same, c.loop-number-test.false) in
    written_all g.F.Form.text (g.W.Write.contents c.args.sink.now) (g.W.Write.contents c.loop-number.sink) c.args.hart
    c.loop-number.number all over c.loop-number.invariant.1

pub returns-in_err-write-clause-begun : goal.returns-in_err-write-clause-begun
returns-in_err-write-clause-begun g c =
    next_begun g.F.Form.text (g.W.Write.contents c.args.sink.now) (g.W.Write.contents c.loop-number.sink)
    (g.W.Write.contents c.write.new.sink) c.args.hart c.loop-number.number
    (payloads c.args.period c.args.mode c.args.log.now) c.in-Some.payload
    (found g (goal.at.returns-in_err-write-clause-begun g c).After-write) c.loop-number.invariant.1
    c.write.ensures.begun

pub returns-in_default-clause-begun : goal.returns-in_default-clause-begun
returns-in_default-clause-begun g c =
    whole_begun _ (g.W.Write.contents c.args.sink.now) (g.W.Write.contents c.loop-number.sink)
    (returns-in_default-clause-text g c)

pub returns-clause-begun : goal.returns-clause-begun
returns-clause-begun g c =
    whole_begun _ (g.W.Write.contents c.args.sink.now) (g.W.Write.contents c.loop-number.sink) (returns-clause-text g c)
