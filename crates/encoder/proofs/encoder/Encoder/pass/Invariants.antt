use Rattle.std.proofs.Common.{◌≡◌, [], Some, take}
use Rattle.rvclass.specs.Fetch.{words_of}
use Rattle.encoder.specs.steps.Becomes.{Becomes}
use Rattle.encoder.specs.declared.due.Due.TheVariants as due
use Rattle.encoder.proofs.encoder.Encoder.pass.Given as goal

-- By the events before this one the encoder would become what the variables say, and they give nothing.
abbrev pub invariant-loop-event : goal.invariant-loop-event
invariant-loop-event l =
    (l.taken ≡ l.event-index)
    × Becomes (words_of l.program) l.fn.self (take l.event-index l.events) (record l.self {
      left = l.left;
      held = Some l.held;
      due = due.Nothing;
      pending = l.pending;
    }) []
