-- The lines of the harts so far are written.
use Rattle.std.proofs.Common.{take}
use Rattle.std.specs.Io.KnownBytes.{Appends}
use Rattle.std.specs.List.{flat_map}
use Rattle.comparing.specs.Explained.{hart_lines, names_in}
use Rattle.comparing.proofs.explanation.write_harts.Given as goal

abbrev pub invariant-loop-place : goal.invariant-loop-place
invariant-loop-place g l =
    Appends (g.W.Write.contents l.fn.sink) (g.W.Write.contents l.sink)
    (flat_map (hart_lines l.how.before (names_in l.how) l.how.stop) (take l.place l.harts))
