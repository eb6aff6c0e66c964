-- What `csv` reads is named by hand.
use Rattle.std.proofs.Common.{◌∙◌, ◌∷◌, [], ap, inl, inr, rules, subst, sym}
use Rattle.std.proofs.lemmas.Result.{IfErr-weaker, IfOk-weaker}
use Rattle.retire.specs.Log.{events_up_to}
use Rattle.retire.specs.steps.ReadsRows.{ReadsRows}
use Rattle.retire.proofs.ReadsLemmas.{feed-records}
use Rattle.retire.proofs.piece.read_rows.Goals as goal

pub returns-clause-reads : goal.returns-clause-reads
returns-clause-reads g c =
    IfOk-weaker c.rows_by_csv.result _ _
    (λ count r. subst (λ t. ReadsRows c.args.most c.args.rows t c.args.events.now.items c.rows_by_csv.new.events.items
    count []) (feed-records c.args.piece.now) r)
    (c.rows_by_csv.ensures.reads (10 ∷ c.args.piece.now) (search rules))

pub returns-clause-faults : goal.returns-clause-faults
returns-clause-faults g c =
    IfErr-weaker c.rows_by_csv.result _ _
    (λ why r. elim r [
      | inl denied ↦ inl denied
      | inr e ↦ inr (ap (events_up_to c.args.most _) (sym (feed-records c.args.piece.now)) ∙ e)
    ])
    (c.rows_by_csv.ensures.faults (10 ∷ c.args.piece.now) (search rules))
