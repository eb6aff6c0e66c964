-- One turn after the other is written: by lemmas on turns, which no tactic finds.
use Rattle.std.proofs.Common.{◌≡◌, ◌∙◌, ◌+◌, ◌-◌, arith, refl, suc, sym}
use Rattle.stimulus.specs.Mixing.{mixed_from, most_turns}
use Rattle.stimulus.proofs.TurnLemmas.{turns_begun, turns_count, turns_front, turns_more, turns_none, turns_over}
use Rattle.stimulus.proofs.mixing.Mixing.write_turns.Goals as goal

pub loop-init : goal.loop-init
loop-init g c = λ mixed is.
    turns_none g.F.Form.text (mixed_from most_turns mixed) most_turns mixed c.args.self.now
    (g.W.Write.contents c.args.sink.now) is refl

pub loop-preserved : goal.loop-preserved
loop-preserved g c = λ mixed is.
    let wrote = c.loop.invariant mixed is in
    let test = c.loop-test.true in
    let next : most_turns - c.loop.counter ≡ suc (most_turns - (c.loop.counter + 1)) = omega (arith, test) in
    turns_more g.F.Form.text (mixed_from most_turns mixed) (most_turns - c.loop.counter)
    (most_turns - (c.loop.counter + 1)) next c.loop.self (g.W.Write.contents c.args.sink.now)
    (g.W.Write.contents c.loop.sink) (g.W.Write.contents c.write_turn.new.sink) wrote
    (sym c.is_over.ensures ∙ c.if-is_over.false) c.write_turn.new.self
    (c.write_turn.ensures.mixed wrote.mixed wrote.stands) (c.in_ok-write_turn.ensures.text wrote.mixed wrote.stands)

pub returns-then-is_over-clause-text : goal.returns-then-is_over-clause-text
returns-then-is_over-clause-text g c = λ mixed is.
    turns_over g.F.Form.text (mixed_from most_turns mixed) (most_turns - c.loop.counter) c.loop.self
    (g.W.Write.contents c.args.sink.now) (g.W.Write.contents c.loop.sink) (c.loop.invariant mixed is)
    (sym c.is_over.ensures ∙ c.if-is_over.true)

pub returns-then-is_over-clause-begun : goal.returns-then-is_over-clause-begun
returns-then-is_over-clause-begun g c = λ mixed is.
    turns_front g.F.Form.text (mixed_from most_turns mixed) (most_turns - c.loop.counter) c.loop.self
    (g.W.Write.contents c.args.sink.now) (g.W.Write.contents c.loop.sink) (c.loop.invariant mixed is)

pub returns-clause-text : goal.returns-clause-text
returns-clause-text g c = λ mixed is.
    let test = c.loop-test.false in
    let none : most_turns - c.loop.counter ≡ 0 = omega (arith, test) in
    turns_count g.F.Form.text (mixed_from most_turns mixed) (most_turns - c.loop.counter) 0 none c.loop.self
    (g.W.Write.contents c.args.sink.now) (g.W.Write.contents c.loop.sink) (c.loop.invariant mixed is)

pub returns-clause-begun : goal.returns-clause-begun
returns-clause-begun g c = λ mixed is.
    turns_front g.F.Form.text (mixed_from most_turns mixed) (most_turns - c.loop.counter) c.loop.self
    (g.W.Write.contents c.args.sink.now) (g.W.Write.contents c.loop.sink) (c.loop.invariant mixed is)

pub returns-in_err-write_turn-clause-begun : goal.returns-in_err-write_turn-clause-begun
returns-in_err-write_turn-clause-begun g c = λ mixed is.
    let wrote = c.loop.invariant mixed is in
    let test = c.loop-test.true in
    let next : most_turns - c.loop.counter ≡ suc (most_turns - (c.loop.counter + 1)) = omega (arith, test) in
    turns_begun g.F.Form.text (mixed_from most_turns mixed) (most_turns - c.loop.counter)
    (most_turns - (c.loop.counter + 1)) next c.loop.self (g.W.Write.contents c.args.sink.now)
    (g.W.Write.contents c.loop.sink) (g.W.Write.contents c.write_turn.new.sink) wrote
    (sym c.is_over.ensures ∙ c.if-is_over.false) (c.write_turn.ensures.begun wrote.mixed wrote.stands)
