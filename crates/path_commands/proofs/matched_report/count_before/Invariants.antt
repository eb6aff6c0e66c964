-- The lines so far are of messages before the place.
use Rattle.std.proofs.Common.{◌≡◌, ℕ, ◌<◌, false, get_or}
use Rattle.std.specs.Prelude.{nat_lt, not}
use Rattle.auditing.specs.declared.arrival_line.Line.TheVariants as line
use Rattle.path_commands.specs.UnnumberedText.{place_of}
use Rattle.path_commands.proofs.matched_report.count_before.Given as goal

abbrev pub invariant-loop-count : goal.invariant-loop-count
invariant-loop-count l =
    (k : ℕ) → k < l.count → not (nat_lt (place_of (get_or l.lines k (line.Stranger 0 0))) l.place) ≡ false
