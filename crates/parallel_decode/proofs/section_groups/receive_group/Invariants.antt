-- What was received so far is of its harts.
use Rattle.std.proofs.Common.{All}
use Rattle.rvclass.specs.Fetch.{words_of}
use Rattle.parallel_decode.specs.steps.Sections.{IsOfHarts}
use Rattle.parallel_decode.proofs.section_groups.receive_group.Given as goal

abbrev pub invariant-loop-number : goal.invariant-loop-number
invariant-loop-number l =
    All (IsOfHarts (words_of l.work.program.now) l.work.announced l.work.bytes.now l.places) l.ends.items
