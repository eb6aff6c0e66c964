-- The fold keeps both, step by step, which no search makes.
use Rattle.live.proofs.GivenLines.{given_alike}
use Rattle.live.proofs.HartLines.{found_alike}
use Rattle.live.proofs.RowLines.{counts_alike, skips_alike}
use Rattle.live.proofs.laws.live_audits_find_the_same.Goals as goal

pub returns-clause-findings : goal.returns-clause-findings
returns-clause-findings c = λ harts window how sent received hart turn clear.
    found_alike harts window how sent received turn clear hart

pub returns-clause-lost : goal.returns-clause-lost
returns-clause-lost c = λ harts window how sent received turn clear. given_alike harts window how sent received turn clear

pub returns-clause-skips : goal.returns-clause-skips
returns-clause-skips c = λ harts window how sent received hart turn clear.
    skips_alike harts window how sent received turn clear hart

pub returns-clause-counts : goal.returns-clause-counts
returns-clause-counts c = λ harts window how sent received hart turn clear few.
    counts_alike harts window how sent received turn clear hart few
