use Rattle.std.proofs.Common.{◌≡◌, ◌-◌, ℕ}
use Rattle.rvclass.specs.Fetch.{words_of}
use Rattle.stimulus.specs.Mixed.{Plan, Stand}
use Rattle.stimulus.specs.declared.sender.Phase.TheVariants as phase
use Rattle.stimulus.specs.steps.Sending.{HasGiven}
use Rattle.stimulus.proofs.TraceLemmas.{Runs}
use Rattle.stimulus.proofs.sender.Tracer.run.Given as goal

-- No packet was given since the call.
abbrev pub invariant-loop-event : goal.invariant-loop-event
invariant-loop-event l = record {
  is_open : l.self.phase ≡ phase.Open;
  runs : (plan : Plan) (number : ℕ) (stand : Stand) → HasGiven (words_of l.program) plan number stand l.fn.self
      → Runs (words_of l.program) plan number stand l.self;
}

abbrev pub decreases-loop-event : goal.decreases-loop-event
decreases-loop-event l = 4294967295 - l.self.hart.given
