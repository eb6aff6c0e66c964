-- Where the search ends is said by a test of each entry: a lemma reads the last of them from it.
use Rattle.std.proofs.Common.{rules}
use Rattle.std.proofs.lemmas.List.Sorted.{IsPartitionPoint-from_clause}
use Rattle.symbols.proofs.OrderLemmas.{is_up_to, last_of_them, none_up_to, order_parted}
use Rattle.symbols.proofs.search.last_up_to.Goals as goal

pub returns-then-count-eq0 : goal.returns-then-count-eq0
returns-then-count-eq0 c =
    let place = c.args.place in
    let xs = c.args.entries.now in
    let count = c.partition_point-count.result in
    none_up_to place xs count
    (IsPartitionPoint-from_clause (is_up_to place) xs count c.partition_point-count.ensures.partitioned
    (order_parted place xs c.requires) (λ a r f' called. search rules))
    c.if-count-eq0.true

pub returns-else-count-eq0 : goal.returns-else-count-eq0
returns-else-count-eq0 c =
    let place = c.args.place in
    let xs = c.args.entries.now in
    let count = c.partition_point-count.result in
    last_of_them place xs count _ c.requires
    (IsPartitionPoint-from_clause (is_up_to place) xs count c.partition_point-count.ensures.partitioned
    (order_parted place xs c.requires) (λ a r f' called. search rules))
    c.partition_point-count.ensures.bound c.if-count-eq0.false
