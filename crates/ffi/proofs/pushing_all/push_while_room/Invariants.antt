-- The first events were pushed.
use Rattle.rvclass.specs.Fetch.{words_of}
use Rattle.ffi.specs.steps.PushingAll.{ArePushed}
use Rattle.ffi.proofs.pushing_all.push_while_room.Given as goal

abbrev pub invariant-loop-place : goal.invariant-loop-place
invariant-loop-place l =
    ArePushed (words_of l.program) l.fn.encoder l.events l.place l.encoder l.written l.fn.packets l.packets
