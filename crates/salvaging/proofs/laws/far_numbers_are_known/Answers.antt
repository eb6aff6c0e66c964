-- Sets are compared, and none is found far, by lemmas on entries.
use Rattle.salvaging.proofs.FarLaws.{far_once, in_order_far, neighbours_far}
use Rattle.salvaging.proofs.laws.far_numbers_are_known.Goals as goal

pub returns-clause-once : goal.returns-clause-once
returns-clause-once c = far_once

pub returns-clause-in_order : goal.returns-clause-in_order
returns-clause-in_order c = in_order_far

pub returns-clause-beside : goal.returns-clause-beside
returns-clause-beside c = neighbours_far
