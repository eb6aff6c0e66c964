use Rattle.std.proofs.Common.{◌≤◌, ◌++◌, take, vec_capacity}
use Rattle.std.specs.List.{flat_map}
use Rattle.retire.specs.LogText.{event_line}
use Rattle.retire.specs.Split.{Split}
use Rattle.retire.proofs.write.write_rows_in.Given as goal

abbrev pub invariant-loop-event : goal.invariant-loop-event
invariant-loop-event g l = record {
  split : Split (g.W.Write.contents l.fn.sink) (g.W.Write.contents l.sink) l.room.items
      (l.fn.room.items ++ flat_map event_line (take l.event-index l.events));
  room : vec_capacity l.fn.room ≤ vec_capacity l.room;
}
