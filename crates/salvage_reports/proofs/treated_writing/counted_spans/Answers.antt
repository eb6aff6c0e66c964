-- There are no more spans than bytes: by a lemma on spans, which no tactic finds.
use Rattle.std.proofs.Common.{ap, arith, length}
use Rattle.salvage_reports.proofs.SpanCounts.{few_spans}
use Rattle.salvage_reports.proofs.treated_writing.counted_spans.Goals as goal

pub returns-clause-few : goal.returns-clause-few
returns-clause-few c =
    let few = few_spans c.args.header c.args.bytes.now in
    let bytes = c.type_inv.bytes in
    let size = ap length c.spans_of.ensures in
    omega (arith, few, bytes, size)
