use Rattle.std.proofs.Common.{◌≡◌}
use Rattle.stimulus.specs.ImageBytes.{slots_bytes}
use Rattle.stimulus.proofs.image.image_of.Given as goal

-- The bytes of the slots before this one.
abbrev pub invariant-loop-slot : goal.invariant-loop-slot
invariant-loop-slot g l = l.image.items ≡ slots_bytes l.mix l.seed l.slot
