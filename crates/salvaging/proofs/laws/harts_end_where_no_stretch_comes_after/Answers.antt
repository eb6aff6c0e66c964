-- The law is a recursion over the entries of a hart, which no search makes.
use Rattle.salvaging.proofs.PartedAtClosing.{may_end_by_parts}
use Rattle.losses.specs.Runs.{first_run}
use Rattle.salvaging.proofs.laws.harts_end_where_no_stretch_comes_after.Goals as goal

pub returns : goal.returns
returns c = λ words mode front later number place payload goods parts closes some leaves.
    may_end_by_parts words mode number place payload later closes some front first_run 0 goods parts leaves
