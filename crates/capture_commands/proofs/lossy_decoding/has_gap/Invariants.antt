-- No messages are missing so far.
use Rattle.std.proofs.Common.{◌≡◌, drop}
use Rattle.std.specs.List.{list_any}
use Rattle.losses.specs.PartsIn.{parts_in}
use Rattle.capture_commands.specs.Pieces.{is_gap}
use Rattle.capture_commands.proofs.lossy_decoding.has_gap.Given as goal

abbrev pub invariant-loop-part : goal.invariant-loop-part
invariant-loop-part l = list_any is_gap (parts_in l.parts) ≡ list_any is_gap (parts_in (drop l.part-index l.parts))
