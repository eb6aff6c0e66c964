-- Whether RECEIVED ends or goes on, by what is held: by lemmas, which no tactic finds.
use Rattle.std.proofs.Common.{◌++◌, sym}
use Rattle.live.proofs.ReceivedBytes.{begins_held, complete_more}
use Rattle.live.proofs.ReceivedTaken.{ends_begun}
use Rattle.live.proofs.received_taking.ends_or_begins.Goals as goal

pub returns-in-Ok-Some-clause-says : goal.returns-in-Ok-Some-clause-says
returns-in-Ok-Some-clause-says c = λ more may.
    let bytes = c.args.bytes.now in
    sym (ends_begun (bytes ++ more) (complete_more bytes more
    (begins_held bytes c.in-Ok-Some.field-0 c.in-Ok-Some.field-0-is c.in-Ok-Some.ensures.held)))
