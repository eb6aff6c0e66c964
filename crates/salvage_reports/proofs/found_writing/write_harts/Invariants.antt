-- The texts of the harts so far are written, and there is still room.
use Rattle.std.specs.Prelude.{option_map}
use Rattle.std.proofs.Common.{◌≤◌, take, vec_capacity}
use Rattle.std.specs.Io.KnownBytes.{Appends}
use Rattle.parallel_decode.specs.EachHart.{joined_harts}
use Rattle.salvage_reports.specs.steps.Harts.{own_text}
use Rattle.salvage_reports.proofs.found_writing.write_harts.Given as goal

abbrev pub invariant-loop-place : goal.invariant-loop-place
invariant-loop-place g l = record {
  text : Appends (g.O.Write.contents l.fn.out) (g.O.Write.contents l.out)
      (joined_harts (own_text l.style.layout (option_map (λ file. file.now) l.style.symbols) l.found)
      l.found.only.first (take l.place l.harts));
  room : 65536 ≤ vec_capacity l.room;
}
