-- A list without an event takes the place of one without an event: by a lemma on lists, which no tactic finds.
use Rattle.std.proofs.Common.{◌≡◌, List, [], arith, ap, sym, ◌∙◌}
use Rattle.std.proofs.lemmas.Grind.{common_steps}
use Rattle.std.proofs.lemmas.List.{nil_from_length}
use Rattle.retire.specs.declared.event.Event.{Event}
use Rattle.receiver.proofs.HoldLemmas.{written_same}
use Rattle.receiver.specs.Received.{Received}
use Rattle.receiver.proofs.receiving.Receiver.take_room.Goals as goal

pub returns : goal.returns
returns g c =
    let inside = c.self.inside in
    let before = c.index_mut-list.result.now in
    let none : before.items ≡ [] = nil_from_length before.items (grind (arith, common_steps)) in
    let whole : List (List Event) → Received = λ lists.
    record { expected = inside.demux; decoders = inside.decoders.items; lists = lists; closed = inside.closed.items } in
    ap whole (written_same inside.lists.items c.from.result before c.clear.new.self c.index_mut-list.ensures.value
    (c.clear.ensures.items ∙ sym none)) ∙ c.self.view_is
