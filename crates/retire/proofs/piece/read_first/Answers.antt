-- What `csv` reads is named by hand.
use Rattle.std.proofs.Common.{◌∷◌, inl, inr, rules, subst}
use Rattle.std.proofs.lemmas.Result.{IfErr-weaker, IfOk-weaker}
use Rattle.retire.specs.steps.ReadsRows.{HasFault, ReadsBeginning}
use Rattle.retire.proofs.ReadsLemmas.{feed-records}
use Rattle.retire.proofs.piece.read_first.Goals as goal

pub returns-clause-reads : goal.returns-clause-reads
returns-clause-reads g c =
    IfOk-weaker c.first_by_csv.result _ _
    (λ found r. subst (λ t. ReadsBeginning c.args.most t c.args.events.now.items c.first_by_csv.new.events.items found)
    (feed-records c.args.piece.now) r)
    (c.first_by_csv.ensures.reads (10 ∷ c.args.piece.now) (search rules))

pub returns-clause-faults : goal.returns-clause-faults
returns-clause-faults g c =
    IfErr-weaker c.first_by_csv.result _ _
    (λ why r. elim r [
      | inl denied ↦ inl denied
      | inr e ↦ inr (subst (λ t. HasFault c.args.most t why) (feed-records c.args.piece.now) e)
    ])
    (c.first_by_csv.ensures.faults (10 ∷ c.args.piece.now) (search rules))
