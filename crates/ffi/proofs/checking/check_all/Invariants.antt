-- The first events have passed.
use Rattle.std.proofs.Common.{◌≡◌}
use Rattle.rvclass.specs.Fetch.{words_of}
use Rattle.ffi.proofs.EventsPassed.{ArePassed}
use Rattle.ffi.proofs.checking.check_all.Given as goal

abbrev pub invariant-loop-place : goal.invariant-loop-place
invariant-loop-place l = ArePassed (words_of l.program) l.events l.place l.path × (l.path.rows ≡ l.place)
