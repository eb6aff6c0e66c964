-- One log more is written: by lemmas on lists of harts, which no tactic finds.
use Rattle.std.proofs.Common.{◌++◌, ap, le_trans, subst, sym, ◌∙◌, arith}
use Rattle.retire.specs.LogText.{log_text}
use Rattle.ffi.proofs.HartsWritten.{AreWritten, all_ends, all_texts, written_more, written_none}
use Rattle.ffi.proofs.decoding.write_logs.Goals as goal

pub loop-place-init : goal.loop-place-init
loop-place-init c = record {
  written = subst (λ text. AreWritten c.args.lists.now c.args.closed.now 0 text c.args.ends.now.items)
      (sym c.requires.first)
      (subst (λ ends. AreWritten c.args.lists.now c.args.closed.now 0 _ ends) (sym c.requires.none)
      (written_none c.args.lists.now c.args.closed.now));
  large = let large = c.in_ok-room.ensures.capacity in omega (arith, large);
}

pub loop-place-preserved : goal.loop-place-preserved
loop-place-preserved c = record {
  written = written_more c.args.lists.now c.args.closed.now c.loop-place.place c.loop-place.text.items
      c.loop-place.ends.items c.index-lists-place.result c.write_hart.new.text.items c.write_hart.new.ends.items
      c.closed_at.result c.loop-place-test.true c.index-lists-place.is c.loop-place.invariant.written
      (c.in_ok-write_hart.ensures.text
      ∙ ap (λ events. c.loop-place.text.items ++ log_text events) c.as_slice.ensures.value)
      c.closed_at.ensures c.in_ok-write_hart.ensures.ends;
  large = le_trans c.loop-place.invariant.large c.write_hart.ensures.room;
}

pub returns-clause-text : goal.returns-clause-text
returns-clause-text c =
    all_texts c.args.lists.now c.args.closed.now c.loop-place.place c.loop-place.text.items c.loop-place.ends.items
    (omega arith) c.loop-place.invariant.written

pub returns-clause-ends : goal.returns-clause-ends
returns-clause-ends c =
    all_ends c.args.lists.now c.args.closed.now c.loop-place.place c.loop-place.text.items c.loop-place.ends.items
    (omega arith) c.loop-place.invariant.written
