-- The harts so far are joined, and the rest of the parts is left.
use Rattle.std.proofs.Common.{All, IfOk}
use Rattle.rvclass.specs.Fetch.{words_of}
use Rattle.parallel_decode.specs.steps.Ends.{AreEnds, IsEntry}
use Rattle.parallel_decode.proofs.parts.joined.Given as goal

abbrev pub invariant-loop-part : goal.invariant-loop-part
invariant-loop-part l =
    AreEnds (words_of l.work.program.now) l.work.announced l.work.bytes.now l.places l.ends.items
    × All (λ part. IfOk part (λ entries. All (IsEntry (words_of l.work.program.now) l.work.announced l.work.bytes.now
    l.places) entries.items)) l.part-iterator.rest.items
