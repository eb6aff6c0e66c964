-- The texts of the parts so far are written, and there is still room.
use Rattle.std.specs.Prelude.{option_map}
use Rattle.std.proofs.Common.{◌≤◌, drop, vec_capacity}
use Rattle.salvaging.specs.PartsIn.{parts_in}
use Rattle.salvage_reports.proofs.PartTexts.{HasWritten}
use Rattle.salvage_reports.proofs.found_writing.write_parts.Given as goal

abbrev pub invariant-loop-part : goal.invariant-loop-part
invariant-loop-part g l = record {
  text : HasWritten l.style.layout (option_map (λ file. file.now) l.style.symbols) l.reported.hart l.reported.offsets.now
      l.reported.gaps.now l.reported.far.now (parts_in l.parts) (parts_in (drop l.part-index l.parts)) l.gone
      (g.O.Write.contents l.fn.out) (g.O.Write.contents l.out);
  room : vec_capacity l.fn.room ≤ vec_capacity l.room;
}
