-- The parts are counted one after the other: by lemmas on sums, which no tactic finds.
use Rattle.std.proofs.Common.{◌+◌, ◌≤◌, ◌<◌, ◌∷◌, ap, arith, drop, length, sym, ◌∙◌}
use Rattle.std.proofs.lemmas.List.{drop_all, drop_more}
use Rattle.std.proofs.lemmas.List.Sums.{sum_by-cons}
use Rattle.std.specs.Prelude.{sum_by}
use Rattle.salvaging.specs.PartsIn.{part_of, parts_in}
use Rattle.salvage_reports.specs.Totals.{capped, part_count}
use Rattle.salvage_reports.proofs.CappedSums.{capped_end, capped_step, fits_by}
use Rattle.salvage_reports.proofs.totals.with_parts.Goals as goal

pub loop-part-preserved : goal.loop-part-preserved
loop-part-preserved c =
    let count = part_count c.args.what in
    let at = c.loop-part.part-index in
    let parts = c.args.parts.now in
    let within : at < length parts = omega arith in
    let is = c.sum_of-all.ensures ∙ ap (λ n. capped (c.loop-part.all + n)) c.part_count.ensures in
    let one = ap (λ l. sum_by count (parts_in l))
    (drop_more parts at c.part-item.result within ∙ ap (λ p. p ∷ drop (at + 1) parts) (sym c.part-item.is))
    ∙ sum_by-cons count (part_of c.part-item.result) (parts_in (drop (at + 1) parts)) in
    record {
      fits = fits_by c.sum_of-all.result (c.loop-part.all + count (part_of c.part-item.result)) is;
      so_far = capped_step c.loop-part.all (count (part_of c.part-item.result)) _ _ _ _ is one c.loop-part.invariant.so_far;
    }

pub returns : goal.returns
returns c =
    let past = c.loop-part-test.false in
    let over : length c.args.parts.now ≤ c.loop-part.part-index = omega (arith, past) in
    let none = ap (λ l. sum_by (part_count c.args.what) (parts_in l)) (drop_all c.loop-part.part-index c.args.parts.now over)
    in
    capped_end c.loop-part.all _ _ c.loop-part.invariant.fits none c.loop-part.invariant.so_far
