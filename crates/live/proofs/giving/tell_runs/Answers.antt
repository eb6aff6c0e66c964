-- The lines of one hart after the other are told: by a lemma on lists, which no tactic finds.
use Rattle.std.proofs.Common.{◌≡◌, ◌∙◌, Some, ap, arith, get_or, slice_get, sym, subst}
use Rattle.std.proofs.lemmas.Option.{slice_get-get_or}
use Rattle.live.specs.Auditing.{run_at, runs_in}
use Rattle.live.specs.Runs.{no_run, run_lines}
use Rattle.live.proofs.Telling.{told_next}
use Rattle.live.proofs.giving.tell_runs.Goals.{in-Ok, in_default}
use Rattle.live.proofs.giving.tell_runs.Goals as goal

pub loop-hart-preserved : goal.loop-hart-preserved
loop-hart-preserved g c = λ few.
    let runs = c.args.runs.now in
    let hart = c.loop-hart.hart in
    let own = get_or runs hart no_run in
    let at : slice_get runs hart ≡ Some own = slice_get-get_or runs hart no_run c.loop-hart-test.true in
    told_next g.row.L.Denot (λ first told last. g.L.LiveLines.Told first told last) g.met.L.LiveLines.joined
    c.args.lines.now c.loop-hart.lines c.match-try_from.lines (λ other. run_lines other (runs_in runs other)) hart
    (c.loop-hart.invariant few) (elim c.match-try_from.branch [
      | in-Ok w ↦
          rw w.lines-is
          (subst (λ told. g.L.LiveLines.Told c.loop-hart.lines told w.tell_run.new.lines)
          (ap (λ h. run_lines h own) w.in-Ok.ensures.1 ∙ sym (ap (λ o. run_lines hart (run_at o)) at))
          w.tell_run.ensures)
      | in_default w ↦
          let less = c.loop-hart-test.true in absurd (w.in_default.ensures (omega (arith, less, few)))
    ])
