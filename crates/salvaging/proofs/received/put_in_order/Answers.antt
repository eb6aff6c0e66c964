-- The sort's clause is of any order, and the prover does not pick this one.
use Rattle.std.proofs.Common.{rules}
use Rattle.std.proofs.lemmas.List.Sorted.{IsPermutation-map}
use Rattle.salvaging.specs.steps.Arrivals.{Rise, arrival_of, arrivals_in}
use Rattle.salvaging.proofs.Sorted.{ordered_from_sort, ordered_of_rising, said_by_test}
use Rattle.salvaging.proofs.received.put_in_order.Goals as goal

pub returns-then-not-rise-clause-permuted : goal.returns-then-not-rise-clause-permuted
returns-then-not-rise-clause-permuted c = IsPermutation-map arrival_of _ _ c.sort_unstable_by.ensures.permutation

pub returns-then-not-rise-clause-ordered : goal.returns-then-not-rise-clause-ordered
returns-then-not-rise-clause-ordered c =
    ordered_from_sort _ c.sort_unstable_by.ensures.sorted (λ a r after called. search rules)

pub returns-else-not-rise-clause-ordered : goal.returns-else-not-rise-clause-ordered
returns-else-not-rise-clause-ordered c =
    ordered_of_rising (arrivals_in c.args.came.now)
    (said_by_test c.rise.result (Rise (arrivals_in c.args.came.now)) c.rise.ensures c.if-not-rise.false)
