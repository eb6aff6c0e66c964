-- What the last entry decides is a lemma on lists.
use Rattle.std.proofs.Common.{sym, ap, take, ◌∙◌}
use Rattle.salvaging.specs.steps.Arrivals.{arrivals_in}
use Rattle.salvaging.specs.steps.Grouping.{entries_by, entry_of}
use Rattle.salvaging.proofs.ClosedLast.{doubtful_leaves, used_closes}
use Rattle.salvaging.proofs.used.is_closed.Goals as goal

pub returns-in-Used : goal.returns-in-Used
returns-in-Used c =
    let front = entries_by (arrivals_in (take c.in-Some.front c.loop-entry.rest.now)) in
    c.is_closing.ensures
    ∙ sym (used_closes (entries_by (arrivals_in c.loop-entry.rest.now)) front (entry_of c.in-Some.entry) _ _ _
    c.in-Some.ensures.last (ap entry_of c.in-Used.is))
    ∙ sym c.loop-entry.invariant

pub loop-entry-preserved : goal.loop-entry-preserved
loop-entry-preserved c =
    let front = entries_by (arrivals_in (take c.in-Some.front c.loop-entry.rest.now)) in
    c.loop-entry.invariant
    ∙ doubtful_leaves (entries_by (arrivals_in c.loop-entry.rest.now)) front (entry_of c.in-Some.entry) _ _ _
    c.in-Some.ensures.last (ap entry_of c.in-Doubtful.is)
