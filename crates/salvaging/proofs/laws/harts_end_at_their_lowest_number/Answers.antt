-- The law is a recursion over the entries of a hart, which no search makes.
use Rattle.salvaging.proofs.NumberedEnds.{ends_by_numbers}
use Rattle.salvaging.proofs.laws.harts_end_at_their_lowest_number.Goals as goal

pub returns : goal.returns
returns c = λ words mode entries upto beyond rises. ends_by_numbers words mode entries upto rises beyond
