-- The messages of the harts so far were received.
use Rattle.std.proofs.Common.{All}
use Rattle.rvclass.specs.Fetch.{words_of}
use Rattle.parallel_decode.specs.steps.Ends.{IsEntry}
use Rattle.parallel_decode.specs.steps.Sections.{IsOfHarts}
use Rattle.parallel_decode.proofs.parts.receive_group.Given as goal

abbrev pub invariant-loop-hart : goal.invariant-loop-hart
invariant-loop-hart l =
    All (IsOfHarts (words_of l.work.program.now) l.work.announced l.work.bytes.now l.places) l.sections
    → All (IsEntry (words_of l.work.program.now) l.work.announced l.work.bytes.now l.places) l.entries.items
