-- The theorems are tables over the classes of words, which no search writes.
use Rattle.explaining.proofs.ListedLemmas.{following_listed, levels_listed, types_listed}
use Rattle.explaining.proofs.laws.texts_list_what_is_legal.Goals as goal

pub returns-clause-types : goal.returns-clause-types
returns-clause-types c = types_listed

pub returns-clause-levels : goal.returns-clause-levels
returns-clause-levels c = levels_listed

pub returns-clause-following : goal.returns-clause-following
returns-clause-following c = following_listed
