-- The first blocks were pushed.
use Rattle.std.proofs.Common.{◌≤◌, length}
use Rattle.rvclass.specs.Fetch.{words_of}
use Rattle.ffi.specs.steps.PushingAll.{ArePushed}
use Rattle.ffi.proofs.pushing_blocks.push_blocks.Given as goal

abbrev pub invariant-loop : goal.invariant-loop
invariant-loop l =
    ArePushed (words_of l.program) l.fn.encoder l.events l.taken l.encoder l.written l.fn.packets l.packets
    × (l.taken ≤ length l.events)
