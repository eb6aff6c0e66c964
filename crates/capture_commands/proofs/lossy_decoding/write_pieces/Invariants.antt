-- The texts of the harts so far are written.
use Rattle.std.proofs.Common.{take}
use Rattle.std.specs.Io.KnownBytes.{Appends}
use Rattle.parallel_decode.specs.EachHart.{each_hart}
use Rattle.capture_commands.specs.Pieces.{parts_of, parts_text}
use Rattle.capture_commands.proofs.lossy_decoding.write_pieces.Given as goal

abbrev pub invariant-loop-place : goal.invariant-loop-place
invariant-loop-place g l = Appends (g.O.Write.contents l.fn.out) (g.O.Write.contents l.out)
    (each_hart parts_text l.first (parts_of (take l.place l.harts)))
