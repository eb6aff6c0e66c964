-- The first events of the block were pushed.
use Rattle.rvclass.specs.Fetch.{words_of}
use Rattle.ffi.specs.steps.PushingAll.{IsPartPushed}
use Rattle.ffi.proofs.pushing_blocks.push_block.Given as goal

abbrev pub invariant-loop-place : goal.invariant-loop-place
invariant-loop-place l =
    IsPartPushed (words_of l.program) l.fn.encoder l.block l.at l.encoder l.place l.fn.packets l.packets
