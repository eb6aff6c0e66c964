-- The first messages are matched and skip nothing.
use Rattle.std.proofs.Common.{◌≡◌, drop}
use Rattle.ffi.specs.AuditedUnnumbered.{first_told, told_after}
use Rattle.ffi.proofs.aligned_harts.first_told.Given as goal

abbrev pub invariant-loop-place : goal.invariant-loop-place
invariant-loop-place l = first_told l.arrivals ≡ told_after l.place (drop l.place l.arrivals)
