-- What the collector answers to the front message, by what is known of its hart.
use Rattle.std.proofs.Common.{◌≡◌, ℕ, ◌++◌, List, Some, Err, slice_get, sym, ap, subst, ◌∙◌}
use Rattle.std.specs.Option.{option_to_list}
use Rattle.legalpath.specs.ProgramLog.{ProgramLog}
use Rattle.payload.specs.declared.mode.Mode.{Mode}
use Rattle.funnel.specs.Machine.{Funnel, take_front}
use Rattle.bench.specs.steps.Taking.{CameUnlessRefused, IsFrontNext, IsNext, LacksSome}
use Rattle.bench.proofs.TakingIn.{lacks_more, names_own, names_same, next_in_front, takes_more}
use Rattle.bench.proofs.replaying.collect.Goals.{After-take_in}
use Rattle.bench.proofs.replaying.collect.Goals as goal

module _ (g : _) (c : After-take_in g) where
  -- It is the next of its hart in any state of the machine with this queue.
  next_in : (period : ℕ) (mode : Mode) (logs : List ProgramLog) (state : Funnel) → state.queue ≡ c.args.core.now.queue
      → IsFrontNext period mode logs state.taken state.queue → IsNext period mode logs state.taken c.in-Some.message
  next_in period mode logs state waits next =
      next_in_front period mode logs state.taken state.queue c.in-Some.message
      (ap (λ queue. slice_get queue 0) waits ∙ sym c.take.ensures.front ∙ c.in-Some.is) next

  -- It is taken of each such state.
  taken_of : (state : Funnel) → state.queue ≡ c.args.core.now.queue
      → (take_front state).taken ≡ state.taken ++ option_to_list (Some c.in-Some.message)
  taken_of state waits =
      c.take.ensures.taken state waits ∙ ap (λ one. state.taken ++ option_to_list one) c.in-Some.is

  taken : (period : ℕ) (mode : Mode) (logs : List ProgramLog) (state : Funnel) → state.queue ≡ c.args.core.now.queue
      → IsFrontNext period mode logs state.taken state.queue
      → CameUnlessRefused period mode logs state.taken c.args.collector.now
      → CameUnlessRefused period mode logs (take_front state).taken c.take_in.new.self
  taken period mode logs state waits next came =
      subst (λ some. CameUnlessRefused period mode logs some c.take_in.new.self) (sym (taken_of state waits))
      (takes_more period mode logs state.taken c.in-Some.message c.take_in.result c.args.collector.now
      c.take_in.new.self c.take_in.ensures came (next_in period mode logs state waits next))

  lacks : (period : ℕ) (mode : Mode) (logs : List ProgramLog) (state : Funnel) → state.queue ≡ c.args.core.now.queue
      → IsFrontNext period mode logs state.taken state.queue
      → CameUnlessRefused period mode logs state.taken c.args.collector.now
      → LacksSome state.taken c.args.collector.now → LacksSome (take_front state).taken c.take_in.new.self
  lacks period mode logs state waits next came lack =
      subst (λ some. LacksSome some c.take_in.new.self) (sym (taken_of state waits))
      (lacks_more period mode logs state.taken c.in-Some.message c.take_in.result c.args.collector.now
      c.take_in.new.self c.take_in.ensures came (next_in period mode logs state waits next) lack)

  -- The front message is so where the funnel is ready.
  ready_next : IsNext c.requires.ready.period c.requires.ready.mode c.requires.ready.logs c.requires.ready.taken
      c.in-Some.message
  ready_next =
      let ready = c.requires.ready in
      next_in_front ready.period ready.mode ready.logs ready.taken c.args.core.now.queue c.in-Some.message
      (sym c.take.ensures.front ∙ c.in-Some.is) ready.next

pub returns-in-Ok-clause-taken : goal.returns-in-Ok-clause-taken
returns-in-Ok-clause-taken g c = taken g (goal.at.returns-in-Ok-clause-taken g c).After-take_in

pub returns-in-Ok-clause-lacks : goal.returns-in-Ok-clause-lacks
returns-in-Ok-clause-lacks g c = lacks g (goal.at.returns-in-Ok-clause-lacks g c).After-take_in

pub returns-in-Ok-clause-names : goal.returns-in-Ok-clause-names
returns-in-Ok-clause-names g c =
    let after = (goal.at.returns-in-Ok-clause-names g c).After-take_in in
    let ready = c.requires.ready in
    names_same ready.period ready.mode ready.logs ready.taken c.in-Some.message c.take_in.result
    c.args.collector.now c.take_in.new.self c.take_in.ensures ready.came (ready_next g after)
    c.args.stop.now c.in-Ok.is

pub returns-in-Err-Memory-clause-taken : goal.returns-in-Err-Memory-clause-taken
returns-in-Err-Memory-clause-taken g c = taken g (goal.at.returns-in-Err-Memory-clause-taken g c).After-take_in

pub returns-in-Err-Memory-clause-lacks : goal.returns-in-Err-Memory-clause-lacks
returns-in-Err-Memory-clause-lacks g c = lacks g (goal.at.returns-in-Err-Memory-clause-lacks g c).After-take_in

pub returns-in-Err-Memory-clause-names : goal.returns-in-Err-Memory-clause-names
returns-in-Err-Memory-clause-names g c =
    let after = (goal.at.returns-in-Err-Memory-clause-names g c).After-take_in in
    let ready = c.requires.ready in
    λ names. names_own ready.period ready.mode ready.logs ready.taken c.in-Some.message c.take_in.result
    c.args.collector.now c.take_in.new.self c.take_in.ensures ready.came (ready_next g after)
    (c.in-Err-Memory.is ∙ ap Err c.in-Err-Memory.field-0-is)
