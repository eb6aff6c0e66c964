-- The row of a hart is that of its counts and runs: each is replaced in turn.
use Rattle.std.proofs.Common.{Bool, List, ap, length, ◌≡◌, ◌∙◌, ℕ}
use Rattle.auditing.specs.Counted.{counts_of}
use Rattle.auditing.specs.HartRows.{longest_of}
use Rattle.auditing.specs.Losing.{runs_of}
use Rattle.auditing.specs.Unset.{lost_in}
use Rattle.auditing.specs.declared.aligned_counts.HartCounts.{HartCounts}
use Rattle.path_commands.specs.MatchedRows.{counts_row}
use Rattle.path_commands.specs.UnnumberedText.{unmatched_runs}
use Rattle.path_commands.proofs.matched_report.matched_row_of.Goals as goal

pub returns : goal.returns
returns c =
    let own = c.args.own.now in
    let lengths = c.run_lengths-lengths in
    let row : HartCounts → ℕ → ℕ → List ℕ = counts_row c.args.format c.args.hart in
    ap (λ (counts : HartCounts). row counts lengths.result.runs lengths.result.longest) c.counts_of.ensures
    ∙ (ap (λ (runs : ℕ). row (counts_of own) runs lengths.result.longest)
    (lengths.ensures.runs ∙ ap (λ (came : List Bool). length (runs_of (lost_in 0 came))) c.sent.ensures)
    ∙ ap (λ (longest : ℕ). row (counts_of own) (length (unmatched_runs own)) longest)
    (lengths.ensures.longest ∙ ap (λ (came : List Bool). longest_of (runs_of (lost_in 0 came))) c.sent.ensures))
