-- The lemmas on what is put at a place are handed to the prover.
use Rattle.std.proofs.Common.{◌∙◌, All, subst, sym, Some}
use Rattle.std.proofs.lemmas.List.{length-set}
use Rattle.std.proofs.lemmas.List.Elements.{All-head, All-rest}
use Rattle.log_streams.proofs.PlacesLemmas.{nothing-known, put-in}
use Rattle.log_streams.proofs.in_order.by_place.Goals as goal

pub loop-entry-init : goal.loop-entry-init
loop-entry-init g c = (
  c.in-Ok.ensures.count,
  nothing-known (g.W.Worker.Allows c.args._worker.now) 0 c.in-Ok.all.items c.in-Ok.ensures.none,
  subst (All (λ entry. g.W.Worker.Allows c.args._worker.now entry.place entry.made))
      (sym c.into_iter-entry-iterator.ensures.into_iter_gives.0) c.requires,
)

pub loop-entry-preserved : goal.loop-entry-preserved
loop-entry-preserved g c = (
  c.loop-entry.invariant.0,
  c.loop-entry.invariant.1,
  All-rest (λ entry. g.W.Worker.Allows c.args._worker.now entry.place entry.made) c.in-Some.entry
      c.next.new.self.rest.items c.loop-entry.entry-iterator.rest.items c.in-Some.ensures.steps.0 c.loop-entry.invariant.2,
)

pub loop-entry-preserved-else-place-len : goal.loop-entry-preserved-else-place-len
loop-entry-preserved-else-place-len g c = (
  c.loop-entry.invariant.0,
  c.loop-entry.invariant.1,
  All-rest (λ entry. g.W.Worker.Allows c.args._worker.now entry.place entry.made) c.in-Some.entry
      c.next.new.self.rest.items c.loop-entry.entry-iterator.rest.items c.in-Some.ensures.steps.0 c.loop-entry.invariant.2,
)

pub loop-entry-preserved-then-place-len : goal.loop-entry-preserved-then-place-len
loop-entry-preserved-then-place-len g c =
    let entry = c.in-Some.entry in (
      length-set c.loop-entry.all.items entry.place (Some entry.made) ∙ c.loop-entry.invariant.0,
      put-in (g.W.Worker.Allows c.args._worker.now) c.loop-entry.all.items entry.place entry.made
          c.loop-entry.invariant.1
          (All-head (λ entry. g.W.Worker.Allows c.args._worker.now entry.place entry.made) entry c.next.new.self.rest.items
          (subst (All (λ entry. g.W.Worker.Allows c.args._worker.now entry.place entry.made)) c.in-Some.ensures.steps.0
          c.loop-entry.invariant.2)),
      All-rest (λ entry. g.W.Worker.Allows c.args._worker.now entry.place entry.made) entry
          c.next.new.self.rest.items c.loop-entry.entry-iterator.rest.items c.in-Some.ensures.steps.0 c.loop-entry.invariant.2,
    )

pub loop-entry-preserved-then-place-len-2 : goal.loop-entry-preserved-then-place-len-2
loop-entry-preserved-then-place-len-2 g c =
    let entry = c.in-Some.entry in (
      length-set c.loop-entry.all.items entry.place (Some entry.made) ∙ c.loop-entry.invariant.0,
      put-in (g.W.Worker.Allows c.args._worker.now) c.loop-entry.all.items entry.place entry.made
          c.loop-entry.invariant.1
          (All-head (λ entry. g.W.Worker.Allows c.args._worker.now entry.place entry.made) entry c.next.new.self.rest.items
          (subst (All (λ entry. g.W.Worker.Allows c.args._worker.now entry.place entry.made)) c.in-Some.ensures.steps.0
          c.loop-entry.invariant.2)),
      All-rest (λ entry. g.W.Worker.Allows c.args._worker.now entry.place entry.made) entry
          c.next.new.self.rest.items c.loop-entry.entry-iterator.rest.items c.in-Some.ensures.steps.0 c.loop-entry.invariant.2,
    )

pub loop-entry-preserved-then-place-len-3 : goal.loop-entry-preserved-then-place-len-3
loop-entry-preserved-then-place-len-3 g c =
    let entry = c.in-Some.entry in (
      length-set c.loop-entry.all.items entry.place (Some entry.made) ∙ c.loop-entry.invariant.0,
      put-in (g.W.Worker.Allows c.args._worker.now) c.loop-entry.all.items entry.place entry.made
          c.loop-entry.invariant.1
          (All-head (λ entry. g.W.Worker.Allows c.args._worker.now entry.place entry.made) entry c.next.new.self.rest.items
          (subst (All (λ entry. g.W.Worker.Allows c.args._worker.now entry.place entry.made)) c.in-Some.ensures.steps.0
          c.loop-entry.invariant.2)),
      All-rest (λ entry. g.W.Worker.Allows c.args._worker.now entry.place entry.made) entry
          c.next.new.self.rest.items c.loop-entry.entry-iterator.rest.items c.in-Some.ensures.steps.0 c.loop-entry.invariant.2,
    )
