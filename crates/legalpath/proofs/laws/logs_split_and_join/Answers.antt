-- The law is proved by recursion over the first stretch.
use Rattle.legalpath.proofs.FollowOnLemmas.{follow_on_split, follow_on_join}
use Rattle.legalpath.proofs.laws.logs_split_and_join.Goals as goal

pub returns : goal.returns
returns c = λ words before front rest.
    (follow_on_split words before front rest, λ parts. follow_on_join words before front rest parts.0 parts.1)
