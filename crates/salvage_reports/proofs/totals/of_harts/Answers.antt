-- The harts are counted one after the other: by lemmas on sums, which no tactic finds.
use Rattle.std.proofs.Common.{◌+◌, ◌≤◌, ◌<◌, ◌∷◌, ap, arith, drop, length, sym, ◌∙◌}
use Rattle.std.proofs.lemmas.List.{drop_all, drop_more}
use Rattle.std.proofs.lemmas.List.Sums.{sum_by-cons}
use Rattle.std.specs.Prelude.{sum_by}
use Rattle.salvage_reports.specs.Totals.{hart_count}
use Rattle.salvage_reports.proofs.CappedSums.{capped_end, capped_step, fits_by}
use Rattle.salvage_reports.proofs.totals.of_harts.Goals as goal

pub loop-own-preserved : goal.loop-own-preserved
loop-own-preserved c =
    let count = hart_count c.args.what in
    let at = c.loop-own.own-index in
    let harts = c.args.harts.now in
    let within : at < length harts = omega arith in
    let is = c.with_hart-sum.ensures in
    let one = ap (sum_by count)
    (drop_more harts at c.own-item.result within ∙ ap (λ h. h ∷ drop (at + 1) harts) (sym c.own-item.is))
    ∙ sum_by-cons count c.own-item.result (drop (at + 1) harts) in
    record {
      fits = fits_by c.with_hart-sum.result (c.loop-own.sum + count c.own-item.result) is;
      so_far = capped_step c.loop-own.sum (count c.own-item.result) _ _ _ _ is one c.loop-own.invariant.so_far;
    }

pub returns : goal.returns
returns c =
    let past = c.loop-own-test.false in
    let over : length c.args.harts.now ≤ c.loop-own.own-index = omega (arith, past) in
    let none = ap (sum_by (hart_count c.args.what)) (drop_all c.loop-own.own-index c.args.harts.now over) in
    capped_end c.loop-own.sum _ _ c.loop-own.invariant.fits none c.loop-own.invariant.so_far
