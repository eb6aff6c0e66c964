-- The ends so far are joined, and the rest of the parts is left.
use Rattle.std.proofs.Common.{All, IfOk}
use Rattle.rvclass.specs.Fetch.{words_of}
use Rattle.parallel_decode.specs.steps.Sections.{IsOfHarts}
use Rattle.parallel_decode.proofs.section_groups.joined.Given as goal

abbrev pub invariant-loop-part : goal.invariant-loop-part
invariant-loop-part l =
    All (IsOfHarts (words_of l.work.program.now) l.work.announced l.work.bytes.now l.places) l.ends.items
    × All (λ part. IfOk part (λ ends. All (IsOfHarts (words_of l.work.program.now) l.work.announced l.work.bytes.now
    l.places) ends.items)) l.part-iterator.rest.items
