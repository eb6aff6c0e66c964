-- What is counted of harts.
use Rattle.std.specs.Prelude.{◌==◌, ◌&&◌, not, Bool, List, length}
use Rattle.std.specs.List.{count_by, list_all, sum_by}
use Rattle.auditing.specs.Matches.{Flags}
use Rattle.auditing.specs.declared.aligned_counts.AlignedTotal.{AlignedTotal}
use Rattle.auditing.specs.declared.aligned_counts.HartCounts.{HartCounts}

-- A hart is whole: nothing is lost, and nothing is extra.
abbrev pub is_whole : Flags → Bool
is_whole flags = count_by not flags.sent == 0 && count_by not flags.came == 0

-- What is counted of a hart.
abbrev pub counts_of : Flags → HartCounts
counts_of flags = record {
  sent = length flags.sent;
  came = length flags.came;
  lost = count_by not flags.sent;
  extra = count_by not flags.came;
  whole = is_whole flags;
}

-- What is counted of all harts, in sum.
abbrev pub total_of : List Flags → AlignedTotal
total_of all = record {
  sent = sum_by (λ (flags : Flags). length flags.sent) all;
  came = sum_by (λ (flags : Flags). length flags.came) all;
  lost = sum_by (λ (flags : Flags). count_by not flags.sent) all;
  extra = sum_by (λ (flags : Flags). count_by not flags.came) all;
  whole = list_all is_whole all;
}
