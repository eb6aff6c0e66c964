-- The rows between two keys are those of the hart: by lemmas on sums, which no tactic finds.
use Rattle.std.proofs.Common.{◌≡◌, ◌∙◌, ◌+◌, ◌-◌, ◌^◌, ap, arith}
use Rattle.std.specs.Prelude.{min}
use Rattle.std.specs.List.{zip}
use Rattle.salvage_reports.specs.HartRows.{rows_up_to}
use Rattle.salvage_reports.specs.steps.Counted.{all_counted, key_of, rows_below}
use Rattle.salvage_reports.proofs.RowsBelow.{all_between, in_any_order}
use Rattle.salvage_reports.proofs.hart_rows.in_row.Goals as goal

pub returns : goal.returns
returns c = λ messages done all same ordered is ranges.
    let hart = c.args.message.now.hart in
    let number = c.args.message.now.number in
    let own = all_counted messages done in
    let first : c.rows_below-first.result ≡ rows_below (key_of hart 0) own =
    c.rows_below-first.ensures all ordered is ∙ ap (λ key. rows_below key all) c.key_of.ensures.value
    ∙ in_any_order (key_of hart 0) own all same in
    let last : c.rows_below-last.result ≡ rows_below (key_of hart number + 1) own =
    c.rows_below-last.ensures all ordered is ∙ ap (λ key. rows_below (key + 1) all) c.key_of-2.ensures.value
    ∙ in_any_order (key_of hart number + 1) own all same in
    let between = all_between hart number c.key_of-2.ensures.range (zip messages done) ranges in
    let rows : c.saturating_sub.result ≡ rows_up_to hart number (zip messages done) =
    omega (arith, first, last, between, c.saturating_sub.ensures) in
    ap (λ rows. record { treated = c.args.treated.now; rows = rows })
    (c.capped.ensures ∙ ap (λ rows. min rows (2 ^ 64 - 1)) rows)
