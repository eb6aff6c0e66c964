-- The first flags are true.
use Rattle.std.proofs.Common.{◌≡◌, ◌+◌, drop}
use Rattle.ffi.specs.Texts.{first_unclosed}
use Rattle.ffi.proofs.texts.first_unclosed.Given as goal

abbrev pub invariant-loop-hart : goal.invariant-loop-hart
invariant-loop-hart l = first_unclosed l.closed ≡ l.hart + first_unclosed (drop l.hart l.closed)
