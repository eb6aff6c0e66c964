-- What was written and what is still held are carried by hand.
use Rattle.std.proofs.Common.{◌≡◌, ◌≤◌, ◌++◌, arith, le_trans, take, vec_capacity, vec_len}
use Rattle.std.proofs.lemmas.List.{take_all}
use Rattle.std.specs.List.{flat_map}
use Rattle.retire.specs.LogText.{event_line}
use Rattle.retire.specs.Split.{Split}
use Rattle.retire.proofs.WriteLemmas.{flat_map-event_more, split_begun, split_held, split_stays, split_written}
use Rattle.retire.proofs.write.write_rows_in.Goals as goal
use Rattle.retire.proofs.write.write_rows_in.Goals.{then-len+in_ok-put, else-len}

pub loop-event-preserved : goal.loop-event-preserved
loop-event-preserved g c =
    let split : Split (g.W.Write.contents c.args.sink.now) (g.W.Write.contents c.if-len.sink) c.if-len.room.items
    (c.args.room.now.items ++ flat_map event_line (take c.loop-event.event-index c.args.events.now)) =
    elim c.if-len.branch [
      | then-len+in_ok-put w ↦
          rw (w.sink-is, w.room-is, w.clear.ensures.items)
          (split_written _ _ _ _ _ c.loop-event.invariant.split
          (rw w.as_slice.ensures.value at w.in_ok-put.ensures.written))
      | else-len w ↦ rw (w.sink-is, w.room-is) c.loop-event.invariant.split
    ] in
    let room : vec_capacity c.args.room.now ≤ vec_capacity c.if-len.room = elim c.if-len.branch [
      | then-len+in_ok-put w ↦ rw (w.room-is, w.clear.ensures.capacity) c.loop-event.invariant.room
      | else-len w ↦ rw w.room-is c.loop-event.invariant.room
    ] in
    record {
      split =
          rw (
            flat_map-event_more c.args.room.now.items c.args.events.now c.loop-event.event-index
                c.loop-event-test.true,
            c.in_ok-append_line.ensures.line,
          )
          (split_held _ _ _ _ _ split);
      room = le_trans room c.in_ok-append_line.ensures.room;
    }

-- A line is refused only where there is no room for it.
pub returns-in_err-append_line-clause-memory : goal.returns-in_err-append_line-clause-memory
returns-in_err-append_line-clause-memory g c =
    let room : vec_capacity c.args.room.now ≤ vec_capacity c.if-len.room = elim c.if-len.branch [
      | then-len+in_ok-put w ↦ rw (w.room-is, w.clear.ensures.capacity) c.loop-event.invariant.room
      | else-len w ↦ rw w.room-is c.loop-event.invariant.room
    ] in
    let held : vec_len c.if-len.room ≤ 65451 = elim c.if-len.branch [
      | then-len+in_ok-put w ↦ rw (w.room-is, w.clear.ensures.len) (omega arith)
      | else-len w ↦ rw w.room-is (omega arith)
    ] in
    λ refused. omega (arith, room, held, c.in_err-append_line.ensures.full)

pub returns-clause-rows : goal.returns-clause-rows
returns-clause-rows g c =
    let all : take c.loop-event.event-index c.args.events.now ≡ c.args.events.now =
    take_all c.loop-event.event-index c.args.events.now (omega arith) in
    rw all at c.loop-event.invariant.split

pub returns-clause-begun : goal.returns-clause-begun
returns-clause-begun g c =
    split_stays c.args.room.now.items c.args.events.now c.loop-event.event-index
    (g.W.Write.contents c.args.sink.now) (g.W.Write.contents c.loop-event.sink) c.loop-event.room.items
    c.loop-event.invariant.split

pub returns-in_err-put-clause-begun : goal.returns-in_err-put-clause-begun
returns-in_err-put-clause-begun g c =
    split_begun c.args.room.now.items c.args.events.now c.loop-event.event-index _
    (g.W.Write.contents c.loop-event.sink) _ _ _ c.loop-event.invariant.split
    c.as_slice.ensures.value c.put.ensures.begun

pub returns-in_err-append_line-clause-begun : goal.returns-in_err-append_line-clause-begun
returns-in_err-append_line-clause-begun g c =
    split_stays c.args.room.now.items c.args.events.now c.loop-event.event-index
    (g.W.Write.contents c.args.sink.now) (g.W.Write.contents c.if-len.sink) c.if-len.room.items (
    elim c.if-len.branch [
      | then-len+in_ok-put w ↦
          rw (w.sink-is, w.room-is, w.clear.ensures.items)
          (split_written _ _ _ _ _ c.loop-event.invariant.split
          (rw w.as_slice.ensures.value at w.in_ok-put.ensures.written))
      | else-len w ↦ rw (w.sink-is, w.room-is) c.loop-event.invariant.split
    ]
    )
