-- What begins the bytes that are held begins them whatever follows: by lemmas, which no tactic finds.
use Rattle.live.proofs.ReceivedBytes.{says_size}
use Rattle.live.proofs.received_taking.size_at.Goals as goal

pub returns-in-Some-clause-size : goal.returns-in-Some-clause-size
returns-in-Some-clause-size c = says_size c.args.bytes.now c.args.ended c.in-Some.size c.in-Some.ensures.value
