-- The spans are counted one after the other: by lemmas on sums, which no tactic finds.
use Rattle.std.proofs.Common.{◌+◌, ap, ◌∙◌}
use Rattle.std.proofs.lemmas.List.Sums.{sum_by-cons}
use Rattle.std.specs.Prelude.{sum_by}
use Rattle.salvage_reports.specs.Totals.{capped, loose_bytes}
use Rattle.salvage_reports.proofs.CappedSums.{capped_end, capped_step, fits_by}
use Rattle.salvage_reports.proofs.totals.loose_bytes.Goals as goal

pub loop-span-preserved : goal.loop-span-preserved
loop-span-preserved c =
    let is = c.sum_of-sum.ensures ∙ ap (λ n. capped (c.loop-span.sum + n)) c.loose_in.ensures in
    let one = ap (sum_by loose_bytes) c.in-Some.ensures.steps ∙ sum_by-cons loose_bytes c.in-Some.span c.next.new.self in
    record {
      fits = fits_by c.sum_of-sum.result (c.loop-span.sum + loose_bytes c.in-Some.span) is;
      so_far = capped_step c.loop-span.sum (loose_bytes c.in-Some.span) _ _ _ _ is one c.loop-span.invariant.so_far;
    }

pub returns : goal.returns
returns c =
    let none = ap (sum_by loose_bytes) c.in-None.ensures.steps.0 in
    capped_end c.loop-span.sum _ _ c.loop-span.invariant.fits none c.loop-span.invariant.so_far
