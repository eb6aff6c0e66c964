-- If no place is found yet, none of the harts so far has one.
use Rattle.std.proofs.Common.{◌≡◌, All, None, take}
use Rattle.parallel_decode.proofs.surveying.first_refused.Given as goal

abbrev pub invariant-loop-end : goal.invariant-loop-end
invariant-loop-end l = l.first ≡ None → All (λ end. end.refused ≡ None) (take l.end-index l.ends)
