-- The same bytes are left, and as many are held as a header has: by the bytes of the buffer.
use Rattle.std.proofs.Common.{◌∙◌}
use Rattle.live.proofs.received.Received.read_start.Goals as goal

pub returns-then-self-clause-read : goal.returns-then-self-clause-read
returns-then-self-clause-read g c = λ rest left. c.loop.invariant.2 rest left

pub returns-in-Err-clause-read : goal.returns-in-Err-clause-read
returns-in-Err-clause-read g c = λ rest left. c.in-Err.ensures.reads rest (c.loop.invariant.2 rest left)

pub loop-preserved : goal.loop-preserved
loop-preserved g c = (
  c.read.ensures.harts ∙ c.loop.invariant.0,
  c.read.ensures.offset ∙ c.loop.invariant.1,
  λ rest left. c.in-Ok.ensures.reads rest (c.loop.invariant.2 rest left),
  c.read.ensures.most ∙ c.loop.invariant.3,
)
