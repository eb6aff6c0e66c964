-- The lost numbers of the harts so far were added, and those of the others are left.
use Rattle.std.proofs.Common.{◌≡◌, ◌-◌, ◌++◌, List, length, map}
use Rattle.std.specs.List.{flat_map, range_with_len}
use Rattle.auditing.specs.Audits.{Audits}
use Rattle.auditing.specs.Known.{known_all}
use Rattle.auditing.specs.Losing.{lost_runs}
use Rattle.message.specs.declared.message.Message.{Message}
use Rattle.ffi.specs.AuditedAll.{all_lost, lost_reported}
use Rattle.ffi.proofs.path_harts.lost_of.Given as goal

abbrev pub invariant-loop-hart : goal.invariant-loop-hart
invariant-loop-hart l =
    (sent received : List Message) → Audits sent received l.path
    → l.lost.items
    ++ flat_map (λ hart. map (lost_reported hart) (lost_runs (known_all l.path.by sent) (known_all l.path.by received) hart))
    (range_with_len l.hart (length l.path.harts - l.hart))
    ≡ all_lost (known_all l.path.by sent) (known_all l.path.by received) (length l.path.harts)
