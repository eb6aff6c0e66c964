-- The law is a recursion over the entries of each hart's messages, which no search makes.
use Rattle.salvaging.proofs.AllLogs.{logs_salvaged}
use Rattle.salvaging.proofs.laws.logs_are_salvaged.Goals as goal

pub returns : goal.returns
returns g c = λ program period handed own logs messages salvaged from is.
    logs_salvaged program period handed own logs messages from salvaged is
