-- The lines so far, and the one that ends here, are a lemma on lists.
use Rattle.std.proofs.Common.{◌∙◌}
use Rattle.symbols.proofs.LineLemmas.{byte_passed, last_read, line_read}
use Rattle.symbols.proofs.reading.all_entries.Goals.{then-byte-eq10+in_ok-add, else-byte-eq10}
use Rattle.symbols.proofs.reading.all_entries.Goals as goal

pub loop-place-preserved : goal.loop-place-preserved
loop-place-preserved g c =
    let bytes = c.args.bytes.now in
    let from = c.loop-place.from in
    let place = c.loop-place.place in
    let reading = c.loop-place.invariant in
    elim c.if-byte-eq10.branch [
      | then-byte-eq10+in_ok-add w ↦
          rw (w.entries-is, w.from-is, w.in_ok-add.ensures)
          (line_read bytes from place c.loop-place.entries.items reading c.loop-place-test.true w.if-byte-eq10.true)
      | else-byte-eq10 w ↦ rw (w.entries-is, w.from-is)
          (byte_passed bytes from place c.loop-place.entries.items reading c.loop-place-test.true w.if-byte-eq10.false)
    ]

pub returns : goal.returns
returns g c =
    c.in_ok-add-2.ensures
    ∙ last_read c.args.bytes.now c.loop-place.from c.loop-place.place c.loop-place.entries.items c.loop-place.invariant
    c.loop-place-test.false
