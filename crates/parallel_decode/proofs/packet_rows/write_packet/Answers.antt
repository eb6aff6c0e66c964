-- The packet is one that can be decoded, and its events are those of the piece and those that are left.
use Rattle.std.proofs.Common.{◌++◌, ap, sym}
use Rattle.parallel_decode.proofs.packet_rows.write_packet.Goals as goal

pub unreachable-requires : goal.unreachable-requires
unreachable-requires g c =
    let next = c.requires.next in
    c.in-Err.ensures.adds_none next.packets next.before next.stands next.log next.described

pub returns-clause-rows : goal.returns-clause-rows
returns-clause-rows g c = λ packets before stands.
    let added = c.feed_packet.new.piece.items ++ c.in-Ok.left in
    let all = sym (ap (λ l. l ++ added) c.clear.ensures.items) in
    record {
      added = added;
      stands = c.in-Ok.ensures.adds packets before added stands all;
      only = c.in-Ok.ensures.only packets before added stands all;
      rows = c.write_events.ensures.rows;
      begun = c.write_events.ensures.begun;
    }
