-- That numbers rise from one to the next says it of all by a recursion, which no search makes.
use Rattle.std.proofs.Common.{arith}
use Rattle.salvaging.proofs.Rising.{rises}
use Rattle.salvaging.proofs.received.rise.Goals as goal

pub returns : goal.returns
returns c =
    let over = c.loop-at-test.false in
    rises c.args.came.now (λ k d within. c.loop-at.invariant k d (omega (arith, within, over)))
