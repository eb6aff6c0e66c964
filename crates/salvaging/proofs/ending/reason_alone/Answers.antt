-- What was judged is what the trail judges after a gap.
use Rattle.std.proofs.Common.{false, [], subst}
use Rattle.std.specs.Prelude.{IfOk}
use Rattle.rvclass.specs.Fetch.{words_of}
use Rattle.losses.specs.Runs.{first_run, run_of}
use Rattle.salvaging.specs.Entries.{next_used}
use Rattle.salvaging.specs.steps.Arrivals.{arrivals_in}
use Rattle.salvaging.specs.steps.Ending.{JudgedAlone}
use Rattle.salvaging.specs.steps.Grouping.{entries_by}
use Rattle.salvaging.proofs.JudgedApart.{judged_alone}
use Rattle.salvaging.proofs.ending.reason_alone.Goals as goal

pub returns : goal.returns
returns g c =
    subst (λ p. IfOk c.judge.result (JudgedAlone (words_of p) c.args.mode c.args.payload.now
    (next_used (entries_by (arrivals_in c.args.behind.now))))) c.of.ensures (
    let words = words_of c.of.result.program.now in
    let mode = c.args.mode in
    let under_way = c.new-trail.ensures.under_way words mode in
    let ends = c.in_ok-end_run.ensures.ends words mode first_run 0 false under_way in
    judged_alone words mode c.args.payload.now (next_used (entries_by (arrivals_in c.args.behind.now))) _
    c.judge.result (c.judge.ensures.judged mode mode (run_of 1 []) 0 (ends.under_way 0)))
