-- Legal logs come back: by a law on captures, which no tactic finds.
use Rattle.std.proofs.Common.{arith}
use Rattle.std.proofs.lemmas.Result.{IfOk-weaker}
use Rattle.captures.proofs.CapturesReturn.{captures_return}
use Rattle.captures.proofs.capture_decoding.decode_watched.Goals as goal
use Rattle.receiver.specs.Received.{events_in}

pub returns-clause-whole : goal.returns-clause-whole
returns-clause-whole g c = λ version period mode logs sent asked.
    IfOk-weaker c.decode_harts.result _ _
    (λ outcome decoded.
    captures_return c.args.program.now period mode c.args.harts logs c.args.bytes.now (events_in outcome.harts.items)
    outcome.closed.items outcome.fault version sent asked (omega (arith, c.ranges.harts.fits)) decoded)
    c.decode_harts.ensures
