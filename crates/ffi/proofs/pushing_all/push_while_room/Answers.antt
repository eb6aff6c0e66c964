-- One event more is pushed: by lemmas on lists, which no tactic finds.
use Rattle.std.proofs.Common.{refl, slice_index_or}
use Rattle.std.proofs.lemmas.Option.{slice_get-get_or}
use Rattle.rvclass.specs.Fetch.{words_of}
use Rattle.ffi.proofs.PushedInTurn.{no_room_at, pushed_more}
use Rattle.ffi.proofs.WrittenInTurn.{part_back, part_lent}
use Rattle.ffi.specs.steps.PushingAll.{NoEvent}
use Rattle.ffi.proofs.pushing_all.push_while_room.Goals as goal

pub loop-place-init : goal.loop-place-init
loop-place-init c = c.push_blocks-first.ensures.pushed

pub returns-in-None-clause-ends : goal.returns-in-None-clause-ends
returns-in-None-clause-ends c =
    NoEvent (slice_index_or c.args.events.now c.loop-place.place _)
    (slice_get-get_or c.args.events.now c.loop-place.place _ c.loop-place-test.true)
    (λ some. let same = c.in-None.ensures.only some.0 some.1 in cc) refl

pub returns-then-status-ne-DONE : goal.returns-then-status-ne-DONE
returns-then-status-ne-DONE c =
    let at = no_room_at (words_of c.args.program.now) c.args.encoder.now c.args.events.now c.args.packets.now
    c.loop-place.place c.loop-place.encoder c.push_next-status.new.encoder c.loop-place.written
    c.push_next-status.new.count c.loop-place.packets _ c.push_next-status.new.packets _
    (part_lent c.loop-place.written c.loop-place.packets)
    (part_back c.loop-place.written c.loop-place.packets c.push_next-status.new.packets) c.loop-place.invariant _
    c.in-Some.event c.push_next-status.result c.loop-place-test.true c.in-Some.ensures.found c.if-status-ne-DONE.true
    c.push_next-status.ensures in
    record { pushed = at.0; ends = at.1 }

pub loop-place-preserved : goal.loop-place-preserved
loop-place-preserved c =
    pushed_more (words_of c.args.program.now) c.args.encoder.now c.args.events.now c.args.packets.now
    c.loop-place.place c.loop-place.encoder c.push_next-status.new.encoder c.loop-place.written
    c.push_next-status.new.count c.loop-place.packets _ c.push_next-status.new.packets _
    (part_lent c.loop-place.written c.loop-place.packets)
    (part_back c.loop-place.written c.loop-place.packets c.push_next-status.new.packets) c.loop-place.invariant _
    c.in-Some.event c.push_next-status.result c.loop-place-test.true c.in-Some.ensures.found c.if-status-ne-DONE.false
    c.push_next-status.ensures
