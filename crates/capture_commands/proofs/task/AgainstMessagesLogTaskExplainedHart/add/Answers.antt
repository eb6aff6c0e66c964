-- The events are compared, where the hart's messages describe a log.
use Rattle.capture_commands.proofs.task.AgainstMessagesLogTaskExplainedHart.add.Goals as goal

pub returns : goal.returns
returns c = λ hart seen keeps legal. (
  keeps.0,
  λ log placed. c.add.ensures log seen (keeps.1 log placed) legal.short,
)
