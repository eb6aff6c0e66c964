-- The search does not join what is passed over with what the next event gives.
use Rattle.std.proofs.Common.{ℕ, ◌+◌, ◌≤◌, [], length, take, ap, subst, arith}
use Rattle.std.proofs.lemmas.List.{length-drop}
use Rattle.std.specs.Option.{option_to_list}
use Rattle.rvclass.specs.Fetch.{words_of}
use Rattle.encoder.specs.steps.Becomes.{Becomes}
use Rattle.encoder.proofs.SeveralEvents.{rest_from, becomes_on, becomes_more, front_gives_nothing}
use Rattle.encoder.proofs.encoder.Encoder.run.Goals.{After-pass}
use Rattle.encoder.proofs.encoder.Encoder.run.Goals as goal

module _ (c : goal.After-pass) where
  abbrev at : ℕ
  at = c.loop.taken + c.pass.result

  -- What is passed over gives nothing either.
  passed : Becomes (words_of c.args.program.now) c.args.self.now (take at c.args.events.now) c.pass.new.self []
  passed = becomes_on (words_of c.args.program.now) c.args.self.now c.loop.self c.pass.new.self c.args.events.now
      c.loop.taken c.pass.result [] c.loop.invariant.2
      (subst (λ rest. Becomes (words_of c.args.program.now) c.loop.self (take c.pass.result rest) c.pass.new.self [])
      (rest_from c.loop.taken c.args.events.now) c.pass.ensures.becomes)

  within : at ≤ length c.args.events.now
  within =
      omega (
        arith,
        c.pass.ensures.within,
        c.loop.invariant.1,
        length-drop c.loop.taken c.args.events.now,
        ap length (rest_from c.loop.taken c.args.events.now),
      )

pub returns-then-at-events-clause-becomes : goal.returns-then-at-events-clause-becomes
returns-then-at-events-clause-becomes c = passed (goal.at.returns-then-at-events-clause-becomes c).After-pass

pub returns-in-Some-clause-becomes : goal.returns-in-Some-clause-becomes
returns-in-Some-clause-becomes c =
    let before = (goal.at.returns-in-Some-clause-becomes c).After-pass in
    subst (λ p. Becomes (words_of c.args.program.now) c.args.self.now (take (at before + 1) c.args.events.now)
    c.step.new.self (option_to_list p)) c.in-Some.is
    (becomes_more (words_of c.args.program.now) c.args.self.now c.pass.new.self c.step.new.self c.args.events.now
    (at before) _ (omega (arith, within before, c.if-at-events.false)) (passed before) c.step.ensures.numbers
    c.step.ensures.after c.step.ensures.given)

pub returns-then-at-events-clause-first : goal.returns-then-at-events-clause-first
returns-then-at-events-clause-first c = λ count few.
    let before = (goal.at.returns-then-at-events-clause-first c).After-pass in
    front_gives_nothing (words_of c.args.program.now) c.args.self.now c.pass.new.self c.args.events.now count
    (at before) (omega (arith, few)) (passed before)

pub returns-in-Some-clause-first : goal.returns-in-Some-clause-first
returns-in-Some-clause-first c = λ count few.
    let before = (goal.at.returns-in-Some-clause-first c).After-pass in
    front_gives_nothing (words_of c.args.program.now) c.args.self.now c.pass.new.self c.args.events.now count
    (at before) (omega (arith, few)) (passed before)

pub returns-clause-first : goal.returns-clause-first
returns-clause-first c = λ count few.
    front_gives_nothing (words_of c.args.program.now) c.args.self.now c.loop.self c.args.events.now count
    c.loop.taken (omega (arith, few)) c.loop.invariant.2

pub loop-preserved : goal.loop-preserved
loop-preserved c =
    let before = (goal.at.loop-preserved c).After-pass in
    let on = c.if-at-events.false in (
      omega (arith, c.loop.invariant.0),
      omega (arith, within before, on),
      subst (λ p. Becomes (words_of c.args.program.now) c.args.self.now (take (at before + 1) c.args.events.now)
          c.step.new.self (option_to_list p)) c.in_default.is
          (becomes_more (words_of c.args.program.now) c.args.self.now c.pass.new.self c.step.new.self
          c.args.events.now (at before) _ (omega (arith, within before, on)) (passed before) c.step.ensures.numbers
          c.step.ensures.after c.step.ensures.given),
    )
