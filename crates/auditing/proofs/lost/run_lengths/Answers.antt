-- The runs are measured one after the other: by lemmas on runs, which no tactic finds.
use Rattle.std.proofs.Common.{◌+◌, ◌-◌, ◌^◌, ◌<◌, length, refl, sym, subst, ap, ◌∙◌, arith}
use Rattle.std.specs.Prelude.{max, min}
use Rattle.auditing.proofs.MeasuredRuns.{HasMeasured, measured_all, measured_more, measured_none}
use Rattle.auditing.specs.Losing.{runs_of}
use Rattle.auditing.specs.Unset.{lost_in}
use Rattle.auditing.proofs.lost.run_lengths.Goals as goal

pub loop-run-init : goal.loop-run-init
loop-run-init c =
    let flags = c.args.came.now in
    subst (λ left. HasMeasured (runs_of (lost_in 0 flags)) left (length flags) 0 0) (sym c.new-left.ensures)
    (measured_none flags)

pub loop-run-preserved : goal.loop-run-preserved
loop-run-preserved c =
    let flags = c.args.came.now in
    let short : length flags < 2 ^ 64 = omega arith in
    measured_more (runs_of (lost_in 0 flags)) c.loop-run.left c.next.new.self c.in-Some.run' (length flags)
    c.loop-run.runs c.loop-run.longest c.saturating_add-runs.result c.max-longest.result short c.loop-run.invariant
    c.in-Some.ensures.next c.saturating_add-runs.ensures
    (c.max-longest.ensures
    ∙ ap (max c.loop-run.longest) (c.saturating_add.ensures
    ∙ ap (λ n. min (n + 1) (2 ^ 64 - 1)) c.saturating_sub.ensures))

pub returns-clause-runs : goal.returns-clause-runs
returns-clause-runs c =
    let flags = c.args.came.now in
    (measured_all (runs_of (lost_in 0 flags)) (length flags) c.loop-run.runs c.loop-run.longest
    (subst (λ left. HasMeasured (runs_of (lost_in 0 flags)) left (length flags) c.loop-run.runs c.loop-run.longest)
    (c.in_default.ensures.end refl) c.loop-run.invariant)).0

pub returns-clause-longest : goal.returns-clause-longest
returns-clause-longest c =
    let flags = c.args.came.now in
    (measured_all (runs_of (lost_in 0 flags)) (length flags) c.loop-run.runs c.loop-run.longest
    (subst (λ left. HasMeasured (runs_of (lost_in 0 flags)) left (length flags) c.loop-run.runs c.loop-run.longest)
    (c.in_default.ensures.end refl) c.loop-run.invariant)).1
