-- The rows so far and one before them are a lemma on lists.
use Rattle.std.proofs.Common.{rules, ◌++◌, [], ◌∷◌, refl, take, ap, ◌∙◌}
use Rattle.salvaging.specs.steps.Arrivals.{arrivals_in}
use Rattle.salvaging.specs.steps.Grouping.{entries_by, entry_of}
use Rattle.salvaging.proofs.RowSteps.{rows_before, rows_end, rows_start}
use Rattle.salvaging.proofs.rows.rows_back.Goals as goal

pub loop-entry-init : goal.loop-entry-init
loop-entry-init g c =
    rows_start (entries_by (arrivals_in c.args.came.now)) c.args.treatments.now c.args.far.now c.new-found.result.items
    c.requires.treatments c.new-found.ensures.items

pub loop-entry-preserved : goal.loop-entry-preserved
loop-entry-preserved g c =
    let rest = c.loop-entry.rest.now in
    let front = entries_by (arrivals_in (take c.in-Some.front rest)) in
    let entry = entry_of c.in-Some.entry in
    rows_before (entries_by (arrivals_in c.args.came.now)) c.args.treatments.now c.args.far.now c.requires.far
    (entries_by (arrivals_in rest)) c.loop-entry.first c.loop-entry.at c.loop-entry.found.items c.loop-entry.invariant
    front entry c.in-Some.ensures.last _ _ refl _ _ refl c.is_good-good.result c.is_good-good.ensures
    c.is_believed-believed.result c.is_believed-believed.ensures c.is_late_behind-late.result
    c.is_late_behind-late.ensures c.is_far.result c.is_far.ensures c.row_with.result c.row_with.ensures _
    (c.push_reserved.ensures.items ∙ ap (λ l. l ++ c.row_with.result ∷ []) c.in_ok-reserve.ensures.items)
    c.earliest_with-first.result c.earliest_with-first.ensures

pub returns : goal.returns
returns g c = λ far is.
    rows_end (entries_by (arrivals_in c.args.came.now)) c.args.treatments.now c.args.far.now
    (entries_by (arrivals_in c.loop-entry.rest.now)) c.loop-entry.first c.loop-entry.at c.loop-entry.found.items
    c.loop-entry.invariant (search rules) far is
