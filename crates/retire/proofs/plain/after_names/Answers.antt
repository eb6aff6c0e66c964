-- The names are given by hand.
use Rattle.std.proofs.Common.{inl, inr}
use Rattle.retire.proofs.PlainRowLemmas.{names-are}
use Rattle.retire.proofs.plain.after_names.Goals as goal

pub returns-in-Some-clause-names : goal.returns-in-Some-clause-names
returns-in-Some-clause-names c =
    names-are c.args.text.now c.as_slice.result.now c.in-Some.rest.now c.in-Some.ensures.cases.0
    c.in-Some.ensures.cases.1 (inl c.as_slice.ensures)

pub returns-clause-names : goal.returns-clause-names
returns-clause-names c =
    names-are c.args.text.now c.as_slice-2.result.now c.in_ok-rest.rest.now c.in_ok-rest.ensures.cases.0
    c.in_ok-rest.ensures.cases.1 (inr c.as_slice-2.ensures)
