-- The first one is found by a lemma on ordered lists.
use Rattle.std.proofs.Common.{rules, ◌≤◌, length, arith}
use Rattle.std.proofs.lemmas.List.Sorted.{IsPartitionPoint-from_clause}
use Rattle.salvaging.specs.declared.received.ReceivedMessage.{ReceivedMessage}
use Rattle.salvaging.specs.steps.Arrivals.{arrival_of}
use Rattle.salvaging.specs.steps.Looking.{is_below}
use Rattle.salvaging.proofs.FirstLike.{first_found, parted, some_like}
use Rattle.salvaging.proofs.lookup.first_like.Goals as goal

pub returns-then-at-came : goal.returns-then-at-came
returns-then-at-came c = λ own ordered there number payload.
    let message = c.args.message.now in
    let came = c.args.came.now in
    let point = IsPartitionPoint-from_clause (λ (one : ReceivedMessage). is_below message (arrival_of one)) came
    c.partition_point-at.result c.partition_point-at.ensures.partitioned (parted message came ordered)
    (λ a r f k. search rules) in
    first_found message came ordered c.partition_point-at.result (λ k d before. point.0 k d (omega arith) before)
    (λ k d from within. point.1 k d from within) own there number payload _

pub returns-else-at-came : goal.returns-else-at-came
returns-else-at-came c = λ own ordered there number payload.
    let message = c.args.message.now in
    let came = c.args.came.now in
    let point = IsPartitionPoint-from_clause (λ (one : ReceivedMessage). is_below message (arrival_of one)) came
    c.partition_point-at.result c.partition_point-at.ensures.partitioned (parted message came ordered)
    (λ a r f k. search rules) in
    let over : length came ≤ c.partition_point-at.result = search rules in
    let within = some_like message came ordered c.partition_point-at.result
    (λ k d before. point.0 k d (omega arith) before) (λ k d from within. point.1 k d from within) own there number
    payload in
    absurd (omega (arith, within, over))
