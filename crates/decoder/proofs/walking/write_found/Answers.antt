-- What is said of the steps is said of walks by inductions over them.
use Rattle.std.proofs.Common.{◌*◌, ◌/◌}
use Rattle.rvclass.specs.Memory.{byte_count}
use Rattle.rvclass.specs.Fetch.{words_of}
use Rattle.decoder.proofs.FoundAsReturned.{Returned, returned}
use Rattle.decoder.specs.steps.Walks.{goal_end}
use Rattle.decoder.proofs.walking.write_found.Goals.{After-write_found_within}
use Rattle.decoder.proofs.walking.write_found.Goals as goal

module _ (g : _) (c : After-write_found_within g) where
  said : Returned (words_of c.args.paths.program.now) c.args.from c.args.outcomes.now (goal_end c.args.goal)
      (32 * (byte_count c.args.paths.program.now / 2)) c.args.log.now.items c.write_found_within.new.log.items
      c.write_found_within.result
  said =
      returned (words_of c.args.paths.program.now) c.args.paths.bound.words _ _
      c.args.paths.bound.within c.args.from c.requires c.new-course.result c.new-course.ensures.course _
      c.args.paths.bound.value c.args.outcomes.now c.args.goal c.new-course.ensures.outcomes c.new-course.ensures.goal
      _ _ _ c.write_found_within.ensures.summary c.write_found_within.ensures.adds

pub returns-clause-found : goal.returns-clause-found
returns-clause-found g c = (said g (goal.at.returns-clause-found g c).After-write_found_within).finds

pub returns-clause-short : goal.returns-clause-short
returns-clause-short g c = (said g (goal.at.returns-clause-short g c).After-write_found_within).short

pub returns-clause-adds : goal.returns-clause-adds
returns-clause-adds g c = (said g (goal.at.returns-clause-adds g c).After-write_found_within).adds

pub returns-clause-none : goal.returns-clause-none
returns-clause-none g c = (said g (goal.at.returns-clause-none g c).After-write_found_within).none
