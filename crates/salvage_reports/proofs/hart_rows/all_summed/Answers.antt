-- One more: by lemmas on sums, which no tactic finds.
use Rattle.std.proofs.Common.{◌≡◌, ◌∙◌, ◌+◌, ◌<◌, ◌++◌, ◌∷◌, [], ap, arith, get_or, length, sym, take}
use Rattle.std.proofs.lemmas.List.{take_more}
use Rattle.std.proofs.lemmas.List.Sums.{sum_by_more}
use Rattle.std.specs.Prelude.{sum_by}
use Rattle.salvage_reports.specs.declared.hart_rows.Counted.{Counted}
use Rattle.salvage_reports.specs.declared.hart_rows.Summed.{Summed}
use Rattle.salvage_reports.specs.steps.Counted.{rows_in, summed}
use Rattle.salvage_reports.proofs.RowsBelow.{summed_push}
use Rattle.salvage_reports.proofs.hart_rows.all_summed.Goals as goal

pub loop-at-preserved : goal.loop-at-preserved
loop-at-preserved g c =
    let all = c.args.all.now in
    let i = c.loop-at.at in
    let inside : i < length all = omega arith in
    let none : Counted = record { key = 0; rows = 0 } in
    let one : Counted = get_or all i none in
    let inv = c.loop-at.invariant in
    let sums = inv.sums in
    let rows = inv.rows in
    let few = inv.few in
    let before = c.loop-at.rows in
    let added : Summed = record { key = one.key; rows = before + one.rows } in
    let front = take i all in
    let more = sum_by_more rows_in all i none inside in
    let same : before + one.rows ≡ 0 + sum_by rows_in front + one.rows = omega (arith, rows) in
    record {
      sums = c.in_ok-push.ensures.items ∙ ap (λ l. l ++ added ∷ []) sums
          ∙ ap (λ rows. summed 0 front ++ record { key = one.key; rows = rows } ∷ []) same
          ∙ sym (ap (summed 0) (take_more all i none inside) ∙ summed_push 0 front one);
      rows = omega (arith, rows, more);
      few = omega (arith, few);
    }
