-- The texts of the parts so far are written.
use Rattle.std.proofs.Common.{take}
use Rattle.std.specs.Io.KnownBytes.{Appends}
use Rattle.losses.specs.PartsIn.{parts_in}
use Rattle.capture_commands.specs.Pieces.{parts_text}
use Rattle.capture_commands.proofs.lossy_decoding.write_parts.Given as goal

abbrev pub invariant-loop-part : goal.invariant-loop-part
invariant-loop-part g l = Appends (g.O.Write.contents l.fn.out) (g.O.Write.contents l.out)
    (parts_text (parts_in (take l.part-index l.parts)))
