-- One hart more: by a lemma on sums, which no tactic finds.
use Rattle.std.proofs.Common.{◌<◌, length, arith}
use Rattle.auditing.proofs.SumLemmas.{total_next}
use Rattle.auditing.proofs.aligned_counts.total_of.Goals as goal

pub loop-hart-preserved : goal.loop-hart-preserved
loop-hart-preserved g c =
    let within : c.loop-hart.hart < length c.args.all.now = omega arith in
    let has = c.loop-hart.invariant in (
      total_next c.args.all.now c.loop-hart.hart c.index-all-hart.result c.loop-hart.total c.total_with-total.result within
          c.index-all-hart.is has.0 c.total_with-total.ensures.sums,
      c.total_with-total.ensures.few c.loop-hart.hart has.1,
    )
