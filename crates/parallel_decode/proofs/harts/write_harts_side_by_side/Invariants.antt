use Rattle.parallel_decode.specs.steps.Filled.{IsFilled}
use Rattle.parallel_decode.proofs.harts.write_harts_side_by_side.Given as goal

-- What is said of a slot is that it has what the stretch at its place adds.
abbrev pub ghosts-write_in_rounds : goal.ghosts-write_in_rounds
ghosts-write_in_rounds g a = record { Holds = IsFilled a.plan }
