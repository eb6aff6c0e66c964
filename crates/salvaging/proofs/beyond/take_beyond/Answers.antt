-- What an entry more leaves and does, and what all do, are lemmas on lists.
use Rattle.std.proofs.Common.{rules, ◌++◌, [], ◌∷◌, ap, ◌∙◌}
use Rattle.rvclass.specs.Fetch.{words_of}
use Rattle.salvaging.specs.steps.Grouping.{entry_of}
use Rattle.salvaging.proofs.BeyondLemmas.{beyond_end, beyond_next, beyond_start}
use Rattle.salvaging.proofs.beyond.take_beyond.Goals as goal

pub loop-entry-init : goal.loop-entry-init
loop-entry-init g c =
    beyond_start g.M.Mark.kept (words_of c.args.program.now) c.args.mode c.args.came.now c.args.outcome.now

pub loop-entry-preserved : goal.loop-entry-preserved
loop-entry-preserved g c =
    let items = c.loop-entry.outcome.marks.items in
    beyond_next g.M.Mark.kept (words_of c.args.program.now) c.args.mode c.args.came.now c.args.outcome.now c.loop-entry.rest.now
    c.loop-entry.outcome _ c.loop-entry.invariant (entry_of c.in-Some.entry) c.in-Some.count c.in-Some.ensures.first
    c.in_ok-part.part c.in_ok-part.ensures c.in_ok-push_part.ensures
    (c.push_reserved.ensures.items ∙ ap (λ l. l ++ c.of.result ∷ []) c.in_ok-reserve.ensures.items
    ∙ ap (λ t. items ++ t ∷ []) (c.of.ensures ∙ ap g.M.Mark.kept c.treated_beyond.ensures))

pub returns : goal.returns
returns g c =
    beyond_end g.M.Mark.kept (words_of c.args.program.now) c.args.mode c.args.came.now c.args.outcome.now c.loop-entry.rest.now
    c.loop-entry.outcome c.loop-entry.invariant (search rules)
