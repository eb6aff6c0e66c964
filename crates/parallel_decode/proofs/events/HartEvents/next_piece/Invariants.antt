-- Some of the events that were left are handed out, and the messages so far are decoded.
use Rattle.std.proofs.Common.{◌≡◌, ◌⊎◌, [], List, vec_capacity, vec_len}
use Rattle.retire.specs.declared.event.Event.{Event}
use Rattle.parallel_decode.specs.Left.{HasLeft, left_of}
use Rattle.parallel_decode.proofs.LeftLemmas.{Going}
use Rattle.parallel_decode.proofs.events.HartEvents.next_piece.Given as goal

abbrev pub invariant-loop : goal.invariant-loop
invariant-loop g l = record {
  going : (rest : List Event) → HasLeft rest l.fn.self → Going rest l.fn.piece.items l.piece.items l.counter l.self;
  filled : (left_of l.self.left ≡ []) ⊎ (vec_len l.piece ≡ vec_capacity l.piece);
  places : l.self.places ≡ l.fn.self.places;
  room : vec_capacity l.piece ≡ vec_capacity l.fn.piece;
}
