-- The clause of the packet's feeding holds of each payload, which the search does not instantiate.
use Rattle.std.proofs.Common.{sym}
use Rattle.ffi.proofs.feeding.feed_payload.Goals as goal

pub returns-in-Ok-feed_packet : goal.returns-in-Ok-feed_packet
returns-in-Ok-feed_packet c =
    (c.in-Ok-feed_packet.ensures c.args.image.now c.args.payload.now c.args.numbers.now
    (record {
      made = c.in-Ok-image.is;
      read = sym c.in-Ok.ensures.value;
      are = c.in-Some.ensures.found;
    }) c.new-events.ensures.items).0

pub returns-in-Err-feed_packet : goal.returns-in-Err-feed_packet
returns-in-Err-feed_packet c =
    c.in-Err-feed_packet.ensures c.args.image.now c.args.payload.now c.args.numbers.now
    (record {
      made = c.in-Ok-image.is;
      read = sym c.in-Ok.ensures.value;
      are = c.in-Some.ensures.found;
    }) c.new-events.ensures.items
