-- The lines so far, and the one that ends here, are a lemma on lists.
use Rattle.std.proofs.Common.{◌+◌, ◌-◌, ◌++◌, length, option_to_list, take, drop, arith, ap, ◌∙◌, sym}
use Rattle.std.proofs.Common.{length-append}
use Rattle.symbols.specs.steps.Entries.{entry_of}
use Rattle.symbols.proofs.LineLemmas.{byte_passed, last_read, line_read}
use Rattle.symbols.proofs.reading.count_entries.Goals.{then-byte-eq10, else-byte-eq10}
use Rattle.symbols.proofs.reading.count_entries.Goals as goal

pub loop-place-preserved : goal.loop-place-preserved
loop-place-preserved c =
    let bytes = c.args.bytes.now in
    let from = c.loop-place.from in
    let place = c.loop-place.place in
    let (done, counted, few, reading) = c.loop-place.invariant in
    let found = option_to_list (entry_of from (take (place - from) (drop from bytes))) in
    elim c.if-byte-eq10.branch [
      | then-byte-eq10 w ↦
          let more = ap (λ k. k + w.count_one-count.result) counted
          ∙ ap (λ k. length done + k) w.count_one-count.ensures.exact ∙ sym (length-append done found) in
          rw (w.count-is, w.from-is) (
            done ++ found,
            more,
            omega (arith, few, reading.below, w.count_one-count.ensures.few),
            line_read bytes from place done reading c.loop-place-test.true w.if-byte-eq10.true,
          )
      | else-byte-eq10 w ↦ rw (w.count-is, w.from-is)
          (done, counted, few, byte_passed bytes from place done reading c.loop-place-test.true w.if-byte-eq10.false)
    ]

pub returns : goal.returns
returns c =
    let bytes = c.args.bytes.now in
    let from = c.loop-place.from in
    let (done, counted, few, reading) = c.loop-place.invariant in
    let found = option_to_list (entry_of from (take (length bytes - from) (drop from bytes))) in
    ap (λ k. k + c.count_one.result) counted ∙ ap (λ k. length done + k) c.count_one.ensures.exact
    ∙ sym (length-append done found)
    ∙ ap length (last_read bytes from c.loop-place.place done reading c.loop-place-test.false)
