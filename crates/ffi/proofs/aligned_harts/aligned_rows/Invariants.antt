-- The rows of the first harts are made.
use Rattle.std.proofs.Common.{◌≡◌, map, take}
use Rattle.ffi.specs.AuditedUnnumbered.{aligned_reported}
use Rattle.ffi.proofs.aligned_harts.aligned_rows.Given as goal

abbrev pub invariant-loop-own : goal.invariant-loop-own
invariant-loop-own l = l.rows.items ≡ map aligned_reported (take l.own-index l.all)
