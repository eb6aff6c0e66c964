-- That all are empty is gathered one by one, which the prover finds by itself only in many steps.
use Rattle.std.proofs.Common.{◌≡◌, ℕ, ◌+◌, ◌++◌, List, [], ◌∷◌, length, replicate, ap, ◌∙◌, arith}
use Rattle.std.specs.declared.vec.Vec.{Vec}
use Rattle.std.proofs.lemmas.List.{length_push, map-append, replicate_more}
use Rattle.retire.specs.declared.event.Event.{Event}
use Rattle.receiver.specs.Received.{events_in}
use Rattle.receiver.proofs.receiving.empty_lists.Goals as goal

one_more : {A : Type 0} (lists : List (Vec Event A)) (list : Vec Event A) (count : ℕ)
    → events_in lists ≡ replicate count [] → list.items ≡ []
    → events_in (lists ++ list ∷ []) ≡ replicate (count + 1) []
one_more lists list count all new =
    map-append (λ list. list.items) lists (list ∷ []) ∙ ap (λ l. l ++ list.items ∷ []) all
    ∙ ap (λ events. replicate count [] ++ events ∷ []) new ∙ replicate_more count []

pub loop-preserved : goal.loop-preserved
loop-preserved g c =
    let items = c.push_reserved.ensures.items in
    let before = c.loop.lists.items in
    let room = c.loop.invariant.2 in
    let kept = c.push_reserved.ensures.capacity in (
      ap events_in items ∙ one_more before _ c.loop.counter c.loop.invariant.0 c.new.ensures.items,
      ap length items ∙ length_push before _ ∙ ap (λ n. n + 1) c.loop.invariant.1,
      omega (arith, room, kept),
    )
