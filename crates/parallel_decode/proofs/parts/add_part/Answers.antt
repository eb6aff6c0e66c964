-- One hart more, if it is the next one.
use Rattle.std.proofs.Common.{All, arith, subst, sym}
use Rattle.std.proofs.lemmas.List.Elements.{All-head, All-rest}
use Rattle.rvclass.specs.Fetch.{words_of}
use Rattle.parallel_decode.proofs.EndLemmas.{ends-next}
use Rattle.parallel_decode.specs.steps.Ends.{AreEnds, IsEntry}
use Rattle.parallel_decode.proofs.parts.add_part.Goals as goal

pub loop-entry-preserved-in-Continue-1 : goal.loop-entry-preserved-in-Continue-1
loop-entry-preserved-in-Continue-1 c =
    let words = words_of c.args.work.now.program.now in
    let announced = c.args.work.now.announced in
    let bytes = c.args.work.now.bytes.now in
    let places = c.args.places.now in
    let entry = c.in-Some.entry in
    let left = c.loop-entry.invariant.1 in (
      subst (AreEnds words announced bytes places) (sym c.in_ok-push.ensures.items)
          (ends-next words announced bytes places c.loop-entry.ends.items entry c.loop-entry.invariant.0
          (All-head (IsEntry words announced bytes places) entry c.next.new.self.rest.items
          (subst (All (IsEntry words announced bytes places)) c.in-Some.ensures.steps.0 left))
          (omega (arith, c.if-hart-len.true, c.len.ensures, c.loop-entry.ends.ok.0))),
      All-rest (IsEntry words announced bytes places) entry c.next.new.self.rest.items
          c.loop-entry.entry-iterator.rest.items c.in-Some.ensures.steps.0 left,
    )

pub loop-entry-preserved : goal.loop-entry-preserved
loop-entry-preserved c = (
  c.loop-entry.invariant.0,
  All-rest (IsEntry (words_of c.args.work.now.program.now) c.args.work.now.announced c.args.work.now.bytes.now
      c.args.places.now) c.in-Some.entry c.next.new.self.rest.items c.loop-entry.entry-iterator.rest.items
      c.in-Some.ensures.steps.0 c.loop-entry.invariant.1,
)
