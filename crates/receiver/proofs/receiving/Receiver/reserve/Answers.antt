-- The list with more room holds the same events: by a lemma on lists, which no tactic finds.
use Rattle.std.proofs.Common.{List, ap, ◌∙◌}
use Rattle.retire.specs.declared.event.Event.{Event}
use Rattle.receiver.proofs.HoldLemmas.{written_same}
use Rattle.receiver.specs.Received.{Received}
use Rattle.receiver.proofs.receiving.Receiver.reserve.Goals as goal

pub returns : goal.returns
returns g c =
    let inside = c.self.inside in
    let whole : List (List Event) → Received = λ lists.
    record { expected = inside.demux; decoders = inside.decoders.items; lists = lists; closed = inside.closed.items } in
    ap whole (written_same inside.lists.items c.from.result c.index_mut-list.result.now c.reserve.new.self
    c.index_mut-list.ensures.value c.reserve.ensures.items) ∙ c.self.view_is
