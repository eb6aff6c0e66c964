-- The row is found by a lemma on rows.
use Rattle.std.proofs.Common.{rules, ◌≤◌, refl, length, arith}
use Rattle.std.specs.Prelude.{nat_lt}
use Rattle.std.proofs.lemmas.List.Sorted.{IsPartitionPoint-from_clause}
use Rattle.salvaging.specs.declared.rows.NumberRow.{NumberRow}
use Rattle.salvaging.proofs.RowFound.{row_found, row_within, rows_parted}
use Rattle.salvaging.proofs.lookup.row_of.Goals as goal

pub returns-then-at-rows : goal.returns-then-at-rows
returns-then-at-rows c = λ all row back rising there is.
    let number = c.args.number in
    let found = c.args.rows.now in
    let point = IsPartitionPoint-from_clause (λ (one : NumberRow). nat_lt number one.number) found
    c.partition_point-at.result c.partition_point-at.ensures.partitioned (rows_parted all found number back rising)
    (λ a r f k. search rules) in (
      _,
      refl,
      row_found all found number back rising c.partition_point-at.result (λ k d before. point.0 k d (omega arith) before)
          (λ k d from within. point.1 k d from within) row there is _,
    )

pub returns-else-at-rows : goal.returns-else-at-rows
returns-else-at-rows c = λ all row back rising there is.
    let number = c.args.number in
    let found = c.args.rows.now in
    let point = IsPartitionPoint-from_clause (λ (one : NumberRow). nat_lt number one.number) found
    c.partition_point-at.result c.partition_point-at.ensures.partitioned (rows_parted all found number back rising)
    (λ a r f k. search rules) in
    let over : length found ≤ c.partition_point-at.result = search rules in
    let within = row_within all found number back rising c.partition_point-at.result
    (λ k d before. point.0 k d (omega arith) before) (λ k d from within. point.1 k d from within) row there is in
    absurd (omega (arith, within, over))
