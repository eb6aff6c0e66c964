-- The order that the sort asks for is tested on neighbours: a lemma carries it on to all.
use Rattle.std.proofs.Common.{rules}
use Rattle.std.proofs.lemmas.List.Sorted.{IsNonDecreasingBy-from_sort, answers_always}
use Rattle.salvage_reports.specs.steps.Counted.{key_in}
use Rattle.salvage_reports.proofs.hart_rows.sort.Goals as goal

pub returns-clause-ordered : goal.returns-clause-ordered
returns-clause-ordered c =
    IsNonDecreasingBy-from_sort key_in c.sort_unstable_by_key.new.self
    (c.sort_unstable_by_key.ensures.sorted key_in (answers_always _ _ _ (λ f a r f' called. search rules)))
