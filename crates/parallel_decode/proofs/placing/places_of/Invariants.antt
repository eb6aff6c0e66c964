-- The places of the messages so far.
use Rattle.std.proofs.Common.{◌≡◌, ◌≤◌, List, drop, length}
use Rattle.message.specs.declared.message.Message.{Message}
use Rattle.parallel_decode.specs.Places.{AreFirst}
use Rattle.parallel_decode.proofs.PlaceLemmas.{Places}
use Rattle.parallel_decode.proofs.placing.places_of.Given as goal

abbrev pub invariant-loop : goal.invariant-loop
invariant-loop g l = record {
  harts : length l.places.items ≡ length l.owns;
  within : l.place ≤ length l.bytes;
  left : drop l.place l.bytes ≡ l.messages;
  placed : (messages : List Message) → AreFirst l.range l.bytes l.count messages
      → Places l.range l.bytes l.places.items l.messages l.counter messages;
}
