-- Far numbers are counted by the entries of the messages, which no search does.
use Rattle.salvaging.proofs.FarCounts.{gaps_add_up, passed_few, reported_plain, taken_few}
use Rattle.salvaging.proofs.GapsFit.{far_many, gaps_many}
use Rattle.salvaging.proofs.laws.far_numbers_are_reported.Goals as goal

pub returns-clause-taken : goal.returns-clause-taken
returns-clause-taken g c = λ words mode messages hart salvaged. taken_few words mode messages hart salvaged

pub returns-clause-passed : goal.returns-clause-passed
returns-clause-passed g c = λ words mode messages hart salvaged. passed_few words mode messages hart salvaged

pub returns-clause-many : goal.returns-clause-many
returns-clause-many g c = λ words mode messages hart salvaged. (
  gaps_many words mode messages hart salvaged,
  far_many words mode messages hart salvaged,
)

pub returns-clause-none : goal.returns-clause-none
returns-clause-none g c = λ words mode messages hart salvaged none.
    reported_plain words mode messages hart salvaged none

pub returns-clause-gaps : goal.returns-clause-gaps
returns-clause-gaps g c = λ words mode messages hart salvaged used none.
    gaps_add_up words mode messages hart salvaged used none
