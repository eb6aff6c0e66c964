-- That all are new is gathered one by one, which the prover does not do by itself.
use Rattle.std.proofs.Common.{◌+◌, All, length, refl, sym, ap, subst, ◌∙◌, arith}
use Rattle.std.proofs.lemmas.List.{length_push}
use Rattle.std.proofs.lemmas.List.Elements.{All-push}
use Rattle.losses.specs.steps.Collecting.{IsNewPieces, IsNewTrace}
use Rattle.losses.proofs.collecting.Collection.new.Goals as goal

pub loop-preserved : goal.loop-preserved
loop-preserved g c =
    let inv = c.loop.invariant in
    let traces = c.push_reserved.ensures.items in
    let pieces = c.push_reserved-in-loop.ensures.items in
    let traces_room = inv.traces_room in
    let pieces_room = inv.pieces_room in
    let traces_kept = c.push_reserved.ensures.capacity in
    let pieces_kept = c.push_reserved-in-loop.ensures.capacity in
    record {
      traces_count = ap length traces ∙ length_push c.loop.traces.items _ ∙ ap (λ n. n + 1) inv.traces_count;
      pieces_count = ap length pieces ∙ length_push c.loop.pieces.items _ ∙ ap (λ n. n + 1) inv.pieces_count;
      traces_room = omega (arith, traces_room, traces_kept);
      pieces_room = omega (arith, pieces_room, pieces_kept);
      traces = subst (All IsNewTrace) (sym traces) (All-push IsNewTrace c.loop.traces.items _ inv.traces
          (record {
            stands = c.new-trace.ensures.stands;
            no_mode = c.new-trace.ensures.no_mode;
            empty = c.new-trace.ensures.stretch;
          }));
      pieces = subst (All IsNewPieces) (sym pieces) (All-push IsNewPieces c.loop.pieces.items _ inv.pieces
          (c.new-parts.ensures.items, refl));
    }
