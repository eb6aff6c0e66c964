-- The rows of the harts so far were made.
use Rattle.std.proofs.Common.{◌≡◌, ◌<◌, ◌^◌, List, length}
use Rattle.auditing.specs.Audits.{Audits}
use Rattle.auditing.specs.Known.{known_all}
use Rattle.message.specs.declared.message.Message.{Message}
use Rattle.ffi.specs.AuditedAll.{all_rows}
use Rattle.ffi.proofs.path_harts.rows_of.Given as goal

abbrev pub invariant-loop-hart : goal.invariant-loop-hart
invariant-loop-hart l =
    (sent received : List Message) → Audits sent received l.path → length received < 2 ^ 64
    → l.rows.items ≡ all_rows (known_all l.path.by sent) (known_all l.path.by received) l.hart
