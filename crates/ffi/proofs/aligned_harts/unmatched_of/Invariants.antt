-- The lost numbers of the harts so far were added, and those of the others are left.
use Rattle.std.proofs.Common.{◌≡◌, ◌-◌, ◌++◌, length}
use Rattle.std.specs.List.{flat_map, range_with_len}
use Rattle.ffi.specs.AuditedUnnumbered.{all_unmatched, unmatched_in}
use Rattle.ffi.proofs.aligned_harts.unmatched_of.Given as goal

abbrev pub invariant-loop-hart : goal.invariant-loop-hart
invariant-loop-hart l =
    l.lost.items ++ flat_map (unmatched_in l.all) (range_with_len l.hart (length l.all - l.hart)) ≡ all_unmatched l.all
