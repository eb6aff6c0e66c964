-- The order that the sort asks for is tested on neighbours: a lemma carries it on to all.
use Rattle.std.proofs.Common.{rules}
use Rattle.std.proofs.lemmas.List.Sorted.{answers_always}
use Rattle.symbols.proofs.OrderLemmas.{in_order}
use Rattle.symbols.proofs.reading.sort.Goals as goal

pub returns-clause-ordered : goal.returns-clause-ordered
returns-clause-ordered c =
    in_order c.sort_unstable_by_key.new.self
    (c.sort_unstable_by_key.ensures.sorted (λ e. (e.address, e.start))
    (answers_always _ _ _ (λ f a r f' called. search rules)))
