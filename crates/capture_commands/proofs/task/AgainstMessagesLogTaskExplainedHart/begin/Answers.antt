-- The hart's messages are at the places that are handed on.
use Rattle.std.proofs.Common.{subst, sym}
use Rattle.parallel_decode.specs.Placed.{IsPlacedLog}
use Rattle.rvclass.specs.Fetch.{words_of}
use Rattle.capture_commands.specs.steps.Places.{places_in}
use Rattle.capture_commands.proofs.task.AgainstMessagesLogTaskExplainedHart.begin.Goals as goal

pub returns : goal.returns
returns c =
    let task = c.args.self.now in (
      c.saturating_add-hart.ensures,
      λ log placed. c.in_ok-beside.ensures log
          (subst (λ own. IsPlacedLog (words_of task.program.now) task.messages.now own log) (sym c.places.ensures)
          (subst (λ hart. IsPlacedLog (words_of task.program.now) task.messages.now
          (places_in task.places.now hart) log)
          (sym c.saturating_add-hart.ensures) placed)),
    )
