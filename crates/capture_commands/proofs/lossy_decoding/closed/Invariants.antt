-- The harts so far are closed.
use Rattle.std.proofs.Common.{◌≡◌, ◌+◌, drop}
use Rattle.capture_commands.specs.Decoding.{end_of_harts}
use Rattle.capture_commands.specs.Pieces.{closed_of}
use Rattle.capture_commands.proofs.lossy_decoding.closed.Given as goal

abbrev pub invariant-loop-place : goal.invariant-loop-place
invariant-loop-place l =
    end_of_harts l.first (closed_of l.harts) ≡ end_of_harts (l.first + l.place) (closed_of (drop l.place l.harts))
