-- Where the search ends is said by a test of each: lemmas on sums read the rows from it.
use Rattle.std.proofs.Common.{◌≡◌, ◌-◌, ◌<◌, ◌≤◌, List, length, rules, slice_index_or, subst, sym, ap, arith}
use Rattle.std.proofs.lemmas.Bool.{ltb-false, ltb-true}
use Rattle.std.proofs.lemmas.List.Sorted.{IsPartitionPoint-from_clause, IsPartitionedBy-ltb}
use Rattle.std.specs.Prelude.{nat_lt}
use Rattle.std.specs.List.Sorted.{IsNonDecreasingBy}
use Rattle.salvage_reports.specs.declared.hart_rows.Summed.{Summed}
use Rattle.salvage_reports.specs.steps.Counted.{rows_below}
use Rattle.salvage_reports.proofs.RowsBelow.{last_below, none_below, summed_long, summed_rises}
use Rattle.salvage_reports.proofs.hart_rows.rows_below.Goals as goal

pub returns-then-at-eq0 : goal.returns-then-at-eq0
returns-then-at-eq0 c = λ all ordered is.
    let key = c.args.key in
    let sums = c.args.sums.now in
    let count = c.partition_point-at.result in
    let rises = subst (IsNonDecreasingBy (λ (one : Summed). one.key)) (sym is) (summed_rises 0 all ordered) in
    let point = IsPartitionPoint-from_clause (λ (one : Summed). nat_lt one.key key) sums count
    c.partition_point-at.ensures.partitioned (IsPartitionedBy-ltb (λ (one : Summed). one.key) sums key rises)
    (λ a r f called. search rules) in
    let bound = c.partition_point-at.ensures.bound in
    let long = ap length is in
    let own = summed_long 0 all in
    none_below key all count (omega (arith, bound, long, own))
    (λ k d less. subst (λ l. (slice_index_or l k d).key < key) is
    (ltb-true (slice_index_or sums k d).key key (point.0 k d (omega arith) less)))
    (λ k d more inside. subst (λ l. key ≤ (slice_index_or l k d).key) is
    (ltb-false (slice_index_or sums k d).key key (point.1 k d more (omega (arith, inside, long)))))
    c.if-at-eq0.true

pub returns : goal.returns
returns c = λ all ordered is.
    let key = c.args.key in
    let sums = c.args.sums.now in
    let count = c.partition_point-at.result in
    let rises = subst (IsNonDecreasingBy (λ (one : Summed). one.key)) (sym is) (summed_rises 0 all ordered) in
    let point = IsPartitionPoint-from_clause (λ (one : Summed). nat_lt one.key key) sums count
    c.partition_point-at.ensures.partitioned (IsPartitionedBy-ltb (λ (one : Summed). one.key) sums key rises)
    (λ a r f called. search rules) in
    let bound = c.partition_point-at.ensures.bound in
    let long = ap length is in
    let own = summed_long 0 all in
    let none : Summed = record { key = 0; rows = 0 } in
    subst (λ (l : List Summed). (slice_index_or {A = Summed} l (count - 1) none).rows ≡ rows_below key all) (sym is)
    (last_below key all count (omega (arith, bound, long, own))
    (λ k d less. subst (λ l. (slice_index_or l k d).key < key) is
    (ltb-true (slice_index_or sums k d).key key (point.0 k d (omega arith) less)))
    (λ k d more inside. subst (λ l. key ≤ (slice_index_or l k d).key) is
    (ltb-false (slice_index_or sums k d).key key (point.1 k d more (omega (arith, inside, long)))))
    none c.if-at-eq0.false)
