-- That the messages of the last number have one entry, and those before them the others, is found by lemmas on lists.
use Rattle.std.proofs.Common.{ap, sym, ◌∙◌}
use Rattle.salvaging.specs.steps.Arrivals.{arrivals_in}
use Rattle.salvaging.specs.steps.Grouping.{entries_by, entry_of}
use Rattle.salvaging.proofs.LastRead.{last_group, last_none, last_one}
use Rattle.salvaging.proofs.TakenSoFar.{behind-is}
use Rattle.salvaging.proofs.grouping.last_entry.Goals as goal

pub returns-in-Some-clause-last : goal.returns-in-Some-clause-last
returns-in-Some-clause-last c =
    let came = c.args.came.now in
    let front = c.before_last-front.result in
    last_one came front c.before_last-front.ensures (entry_of c.in-Some.entry) _
    (ap (λ l. entries_by (arrivals_in l)) (sym (behind-is came front)) ∙ c.in-Some.ensures.first)

pub returns-in-Some-clause-group : goal.returns-in-Some-clause-group
returns-in-Some-clause-group c =
    let came = c.args.came.now in
    let front = c.before_last-front.result in
    last_group came front c.before_last-front.ensures (entry_of c.in-Some.entry) _
    (ap (λ l. entries_by (arrivals_in l)) (sym (behind-is came front)) ∙ c.in-Some.ensures.first)

pub returns-in-None-clause-none : goal.returns-in-None-clause-none
returns-in-None-clause-none c =
    let came = c.args.came.now in
    let front = c.before_last-front.result in
    last_none came front c.before_last-front.ensures
    (ap (λ l. entries_by (arrivals_in l)) (sym (behind-is came front)) ∙ c.in-None.ensures.none)
