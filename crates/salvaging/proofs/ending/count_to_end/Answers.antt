-- What an entry more changes, and what is found at the end, are lemmas on lists.
use Rattle.std.proofs.Common.{rules, ◌&&◌, if◌then◌else◌, length, refl, take, sym, subst}
use Rattle.std.specs.Prelude.{MatchBool}
use Rattle.rvclass.specs.Fetch.{words_of}
use Rattle.salvaging.specs.Ends.{BeginsStretch}
use Rattle.salvaging.specs.steps.Ending.{closes}
use Rattle.salvaging.specs.steps.Grouping.{entry_of}
use Rattle.salvaging.proofs.EndLemmas.{EndSo, end_begins, end_next, end_none, end_start}
use Rattle.salvaging.proofs.ending.count_to_end.Goals as goal

pub loop-entry-init : goal.loop-entry-init
loop-entry-init g c =
    end_start (words_of c.args.program.now) c.args.mode c.args.came.now _ refl

pub returns-then-branch-clause-cut : goal.returns-then-branch-clause-cut
returns-then-branch-clause-cut g c =
    let words = words_of c.args.program.now in
    let entry = entry_of c.in-Some.entry in
    end_begins words c.args.mode c.args.came.now c.loop-entry.rest.now c.loop-entry.end c.loop-entry.used
    c.loop-entry.invariant entry c.in-Some.front c.in-Some.ensures.last
    (subst (λ b. MatchBool b (BeginsStretch words c.args.mode entry) (¬ BeginsStretch words c.args.mode entry))
    c.if-branch.true c.in_ok-begins_stretch.ensures)

pub loop-entry-preserved : goal.loop-entry-preserved
loop-entry-preserved g c =
    let words = words_of c.args.program.now in
    let came = c.args.came.now in
    let rest = c.loop-entry.rest.now in
    let used = c.loop-entry.used in
    let end = c.loop-entry.end in
    let entry = entry_of c.in-Some.entry in
    let next = end_next words c.args.mode came rest end used c.loop-entry.invariant entry c.in-Some.front
    c.in-Some.ensures.last c.in-Some.ensures.group c.requires
    (subst (λ b. MatchBool b (BeginsStretch words c.args.mode entry) (¬ BeginsStretch words c.args.mode entry))
    c.if-branch.false c.in_ok-begins_stretch.ensures) in
    subst (λ n. EndSo words c.args.mode came (take c.in-Some.front rest) n c.used_with-used.result)
    (sym c.end_with-end.ensures)
    (subst (λ b. EndSo words c.args.mode came (take c.in-Some.front rest)
    (if used && closes entry then length rest else end) b) (sym c.used_with-used.ensures) next)

pub returns-clause-cut : goal.returns-clause-cut
returns-clause-cut g c =
    end_none (words_of c.args.program.now) c.args.mode c.args.came.now c.loop-entry.rest.now c.loop-entry.end
    c.loop-entry.used c.loop-entry.invariant (search rules)
