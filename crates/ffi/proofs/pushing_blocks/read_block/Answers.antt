-- Two events more are read: by a lemma on lists, which no tactic finds.
use Rattle.std.proofs.Common.{◌≡◌, ◌+◌, ◌*◌, map, take, sym, ap, ◌∙◌, arith}
use Rattle.std.specs.Prelude.{slice_set}
use Rattle.std.proofs.lemmas.List.{length-set}
use Rattle.ffi.proofs.EventsCopied.{read_more}
use Rattle.ffi.specs.Events.{numbers_of_event}
use Rattle.ffi.proofs.pushing_blocks.read_block.Goals as goal

pub loop-pair-preserved : goal.loop-pair-preserved
loop-pair-preserved c =
    let long = c.loop-pair.invariant.1 in
    let few = c.loop-pair-test.true in
    let many = c.requires in
    let numbers = c.args.events.now in
    let block = c.loop-pair.block in
    let place = 2 * c.loop-pair.pair in
    let one = c.read_event.new.event in
    let two = c.read_event-in-loop-pair.new.event in
    let longer = length-set block place one ∙ long in
    let on : 2 * (c.loop-pair.pair + 1) ≡ place + 1 + 1 = omega arith in
    let first = read_more numbers block place _ one (omega (arith, long, few, many)) (omega (arith, few))
    (c.read_event.ensures c.if-not-read_event.false) c.loop-pair.invariant.0 in (
      ap (λ n. map numbers_of_event (take n (slice_set (slice_set block place one) (place + 1) two))) on
          ∙ read_more numbers (slice_set block place one) (place + 1) _ two (omega (arith, longer, few, many))
          (omega (arith, few)) (c.read_event-in-loop-pair.ensures c.if-not-read_event-2.false) first
          ∙ ap (λ n. take n numbers) (sym on),
      length-set (slice_set block place one) (place + 1) two ∙ longer,
    )
