-- What became of the first spans is added, and the others are left.
use Rattle.std.proofs.Common.{◌≡◌, ◌++◌, drop}
use Rattle.ffi.specs.AuditedAll.{byte_runs}
use Rattle.ffi.specs.AuditedUnnumbered.{arrivals_from, matched_arrivals}
use Rattle.ffi.proofs.aligned_harts.matched_spans.Given as goal

abbrev pub invariant-loop-span : goal.invariant-loop-span
invariant-loop-span l =
    (l.arrivals.items ++ arrivals_from l.states.items (drop l.span-index l.spans) ≡ matched_arrivals l.all l.spans)
    × (l.runs.items ++ byte_runs (drop l.span-index l.spans) ≡ byte_runs l.spans)
