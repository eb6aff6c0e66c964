-- The laws are recursions over the messages, which no search makes.
use Rattle.std.proofs.Common.{refl}
use Rattle.path_commands.proofs.GeneratedCaptures.{mixed_sent, mixed_whole}
use Rattle.path_commands.proofs.laws.generated_captures_are_whole.Goals as goal

pub returns-clause-sent : goal.returns-clause-sent
returns-clause-sent c = λ program asked bytes start made. mixed_sent program asked start bytes made

pub returns-clause-whole : goal.returns-clause-whole
returns-clause-whole c = λ program asked bytes start made.
    mixed_whole program asked start bytes made made.messages (λ hart. refl)

pub returns-clause-alike : goal.returns-clause-alike
returns-clause-alike c = λ program asked bytes start made. mixed_whole program asked start bytes made
