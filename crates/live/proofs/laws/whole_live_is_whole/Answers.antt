-- By what is found of each message and what is given up, which no search puts together.
use Rattle.live.proofs.LiveWhole.{says_whole}
use Rattle.live.proofs.WholeLines.{whole_alike}
use Rattle.live.proofs.laws.whole_live_is_whole.Goals as goal

pub returns-clause-live : goal.returns-clause-live
returns-clause-live c = λ header harts window how sent received turn whole.
    whole_alike harts window how sent received turn whole header

pub returns-clause-audited : goal.returns-clause-audited
returns-clause-audited c = λ header window how sent received some turn whole time.
    says_whole header window some how sent received turn whole time
