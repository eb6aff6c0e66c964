-- The events of the first pairs were read.
use Rattle.std.proofs.Common.{◌≡◌, ◌*◌, length, map, take}
use Rattle.ffi.specs.Events.{numbers_of_event}
use Rattle.ffi.specs.declared.pushing_blocks.TheConstants.{BLOCK}
use Rattle.ffi.proofs.pushing_blocks.read_block.Given as goal

abbrev pub invariant-loop-pair : goal.invariant-loop-pair
invariant-loop-pair l =
    (map numbers_of_event (take (2 * l.pair) l.block) ≡ take (2 * l.pair) l.events) × (length l.block ≡ BLOCK)
