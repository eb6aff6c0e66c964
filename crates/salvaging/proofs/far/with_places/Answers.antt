-- One message more has its place: by lemmas on lists.
use Rattle.std.proofs.Common.{rules, ◌≡◌, ◌<◌, ◌+◌, ◌++◌, [], ◌∷◌, arith, length, take, ap, sym, ◌∙◌}
use Rattle.std.proofs.lemmas.Grind.{common_steps}
use Rattle.std.proofs.lemmas.List.{length_push, map-append, take_more}
use Rattle.salvaging.specs.steps.Arrivals.{arrival_of, arrivals_in, placed_from}
use Rattle.salvaging.proofs.Distributed.{placed-append}
use Rattle.salvaging.proofs.far.with_places.Goals as goal

pub loop-place-preserved : goal.loop-place-preserved
loop-place-preserved g c =
    let at = c.loop-place.place in
    let messages = c.args.messages.now in
    let one = c.index-messages-place.result in
    let within : at < length messages = omega arith in
    let inv = c.loop-place.invariant in
    let pushed = c.push_reserved.ensures.items in
    let plain : 0 + length (take at messages) ≡ at = grind (arith, common_steps) in (
      ap arrivals_in pushed ∙ map-append arrival_of c.loop-place.came.items _
          ∙ ap (λ l. l ++ placed_from at (one ∷ [])) inv.0
          ∙ ap (λ n. placed_from 0 (take at messages) ++ placed_from n (one ∷ [])) (sym plain)
          ∙ sym (placed-append 0 (take at messages) (one ∷ []))
          ∙ ap (λ x. placed_from 0 (take at messages ++ x ∷ [])) c.index-messages-place.is
          ∙ ap (placed_from 0) (sym (take_more messages at one within)),
      ap length pushed ∙ length_push c.loop-place.came.items _ ∙ ap (λ n. n + 1) inv.1,
      search rules,
    )
