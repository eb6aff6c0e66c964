-- The packets so far are decoded, and their rows are written or held.
use Rattle.std.proofs.Common.{◌≡◌, ◌≤◌, [], List}
use Rattle.std.specs.Vec.{vec_capacity}
use Rattle.retire.specs.declared.event.Event.{Event}
use Rattle.rvclass.specs.Fetch.{words_of}
use Rattle.parallel_decode.proofs.RowLemmas.{Reached}
use Rattle.parallel_decode.specs.Parts.{IsPart}
use Rattle.parallel_decode.proofs.part.write_part.Given as goal

abbrev pub invariant-loop-place : goal.invariant-loop-place
invariant-loop-place g l = record {
  reached : (part : List Event) (is : IsPart (words_of l.program) l.bytes l.places l.fn.decoder part)
      → Reached (words_of l.program) l.bytes l.places l.fn.decoder part is l.place-index l.decoder []
      l.rows.room.items (g.O.Write.contents l.fn.out) (g.O.Write.contents l.out);
  piece : vec_capacity l.rows.piece ≡ vec_capacity l.fn.rows.piece;
  room : vec_capacity l.fn.rows.room ≤ vec_capacity l.rows.room;
}
