-- What is written, held and left is carried by hand.
use Rattle.std.proofs.Common.{◌≡◌, ◌++◌, ◌∙◌, ◌-◌, ◌==◌, true, List, ap, le_trans, length, sym, subst, take}
use Rattle.std.proofs.Common.{take-append-drop, vec_capacity, vec_len}
use Rattle.output.specs.Begun.{AppendsBeginning}
use Rattle.retire.specs.declared.event.Event.{Event}
use Rattle.parallel_decode.proofs.SplitLemmas.{HandsOut, hands_all, hands_begun, hands_more, none_left, rows, split_begun}
use Rattle.retire.specs.Split.{Split}
use Rattle.parallel_decode.proofs.packet_rows.write_events.Goals.{After-write_rows_in}
use Rattle.parallel_decode.proofs.packet_rows.write_events.Goals as goal

module _ (g : _) (c : After-write_rows_in g) where
  -- All events of the packet.
  abbrev all : List Event
  all = c.args.piece.now.items ++ c.args.left.now

  -- The rows of a piece more are written, or held.
  more : Split (g.O.Write.contents c.loop-left.out) (g.O.Write.contents c.write_rows_in.new.sink)
      c.write_rows_in.new.room.items (c.loop-left.room.items ++ rows c.as_slice.result.now)
      → HandsOut (g.O.Write.contents c.args.out.now) (g.O.Write.contents c.write_rows_in.new.sink)
      c.args.room.now.items c.write_rows_in.new.room.items all c.loop-left.left
  more written =
      hands_more (g.O.Write.contents c.args.out.now) (g.O.Write.contents c.loop-left.out) c.args.room.now.items
      c.loop-left.room.items all c.loop-left.piece.items c.loop-left.left c.loop-left.invariant.handed
      (g.O.Write.contents c.write_rows_in.new.sink) c.write_rows_in.new.room.items
      (subst (λ events. Split (g.O.Write.contents c.loop-left.out) (g.O.Write.contents c.write_rows_in.new.sink)
      c.write_rows_in.new.room.items (c.loop-left.room.items ++ rows events)) c.as_slice.ensures.value written)

pub returns-in_err-write_rows_in-clause-begun : goal.returns-in_err-write_rows_in-clause-begun
returns-in_err-write_rows_in-clause-begun g c =
    hands_begun (g.O.Write.contents c.args.out.now) (g.O.Write.contents c.loop-left.out) c.args.room.now.items
    c.loop-left.room.items (c.args.piece.now.items ++ c.args.left.now) c.loop-left.piece.items c.loop-left.left
    c.loop-left.invariant.handed (g.O.Write.contents c.write_rows_in.new.sink)
    (subst (λ events. AppendsBeginning (c.loop-left.room.items ++ rows events) (g.O.Write.contents c.loop-left.out)
    (g.O.Write.contents c.write_rows_in.new.sink)) c.as_slice.ensures.value c.write_rows_in.ensures.begun)

pub returns-then-is_empty-clause-rows : goal.returns-then-is_empty-clause-rows
returns-then-is_empty-clause-rows g c =
    let after = (goal.at.returns-then-is_empty-clause-rows g c).After-write_rows_in in
    let none : (length c.loop-left.left == 0) ≡ true = sym c.is_empty.ensures ∙ c.if-is_empty.true in
    hands_all (g.O.Write.contents c.args.out.now) (g.O.Write.contents c.write_rows_in.new.sink) c.args.room.now.items
    c.write_rows_in.new.room.items (c.args.piece.now.items ++ c.args.left.now) c.loop-left.left
    (more g after c.in_ok-write_rows_in.ensures.rows)
    (none_left c.loop-left.left none)

pub returns-then-is_empty-clause-begun : goal.returns-then-is_empty-clause-begun
returns-then-is_empty-clause-begun g c =
    split_begun (g.O.Write.contents c.args.out.now) (g.O.Write.contents c.write_rows_in.new.sink)
    c.write_rows_in.new.room.items _ (returns-then-is_empty-clause-rows g c)

pub loop-left-preserved : goal.loop-left-preserved
loop-left-preserved g c =
    let after = (goal.at.loop-left-preserved g c).After-write_rows_in in
    let left = c.loop-left.left in
    let n = vec_capacity c.clear.new.self - vec_len c.clear.new.self in
    let piece : c.next_piece.new.piece.items ≡ take n left =
    c.next_piece.ensures.appended ∙ ap (λ l. l ++ take n left) c.clear.ensures.items in
    let same : c.next_piece.new.piece.items ++ c.next_piece.new.self ≡ left =
    ap (λ l. l ++ c.next_piece.new.self) piece ∙ ap (λ l. take n left ++ l) c.next_piece.ensures.left
    ∙ take-append-drop n left in
    record {
      handed =
          subst (HandsOut (g.O.Write.contents c.args.out.now) (g.O.Write.contents c.write_rows_in.new.sink)
          c.args.room.now.items c.write_rows_in.new.room.items (c.args.piece.now.items ++ c.args.left.now)) (sym same)
          (more g after c.in_ok-write_rows_in.ensures.rows);
      piece = c.next_piece.ensures.room ∙ c.clear.ensures.capacity ∙ c.loop-left.invariant.piece;
      room = le_trans c.loop-left.invariant.room c.write_rows_in.ensures.room;
    }
