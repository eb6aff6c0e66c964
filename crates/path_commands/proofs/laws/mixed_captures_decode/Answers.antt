-- The laws are recursions over the messages, which no search makes.
use Rattle.path_commands.proofs.MixedLogs.{logs_alike, logs_decode, logs_sent}
use Rattle.path_commands.proofs.laws.mixed_captures_decode.Goals as goal

pub returns-clause-sent : goal.returns-clause-sent
returns-clause-sent c = logs_sent

pub returns-clause-alike : goal.returns-clause-alike
returns-clause-alike c = logs_alike

pub returns-clause-decodes : goal.returns-clause-decodes
returns-clause-decodes c = λ program period mode version logs bytes messages is.
    logs_decode period mode version logs bytes messages is program
