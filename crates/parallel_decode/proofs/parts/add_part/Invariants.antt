-- The harts so far are added, and the rest of the part is left.
use Rattle.std.proofs.Common.{All}
use Rattle.rvclass.specs.Fetch.{words_of}
use Rattle.parallel_decode.specs.steps.Ends.{AreEnds, IsEntry}
use Rattle.parallel_decode.proofs.parts.add_part.Given as goal

abbrev pub invariant-loop-entry : goal.invariant-loop-entry
invariant-loop-entry l =
    AreEnds (words_of l.work.program.now) l.work.announced l.work.bytes.now l.places l.ends.items
    × All (IsEntry (words_of l.work.program.now) l.work.announced l.work.bytes.now l.places) l.entry-iterator.rest.items
