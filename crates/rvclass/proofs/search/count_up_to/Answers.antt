-- Where the search ends is said by a test of each part: a lemma reads the count from it.
use Rattle.std.proofs.Common.{rules}
use Rattle.std.proofs.lemmas.List.Sorted.{IsPartitionPoint-from_clause}
use Rattle.rvclass.proofs.OrderLemmas.{count_found, is_up_to, order_parted}
use Rattle.rvclass.proofs.search.count_up_to.Goals as goal

pub returns-clause-count : goal.returns-clause-count
returns-clause-count c =
    let rank = c.args.rank in
    let parts = c.args.parts.now in
    let count = c.partition_point.result in
    count_found rank parts count
    (IsPartitionPoint-from_clause (is_up_to rank) parts count c.partition_point.ensures.partitioned
    (order_parted rank parts c.requires) (λ a r f' called. search rules))
