-- What was read is known of the message before it is handed on, which no tactic puts together.
use Rattle.live.proofs.looking.read_placed.Goals as goal

pub returns-in-Ok-clause-read : goal.returns-in-Ok-clause-read
returns-in-Ok-clause-read g c = λ sent came front holds.
    (c.is_numbered-is_last.ensures, c.in-Ok.ensures.read sent came front holds)
