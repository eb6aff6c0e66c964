-- A message of SENT is given up: by a lemma on the runs of the harts, which no tactic finds.
use Rattle.std.proofs.Common.{◌≡◌, [], ◌∷◌, Some, get_or, slice_get, slice_set, sym, ap, ◌∙◌}
use Rattle.std.proofs.lemmas.Option.{slice_get-get_or}
use Rattle.live.specs.Auditing.{run_at}
use Rattle.live.specs.Lines.{GivenUp}
use Rattle.live.specs.Runs.{run_with}
use Rattle.live.specs.steps.Giving.{written_lines}
use Rattle.live.proofs.Telling.{given_one}
use Rattle.live.proofs.giving.give.Goals as goal

pub returns-clause-given : goal.returns-clause-given
returns-clause-given g c = λ state same counted.
    let slot = c.args.slot.now in
    let runs = c.args.runs.now.items in
    let hart = slot.message.hart in
    let known : slice_get runs hart ≡ Some c.in-Some.own.now =
    slice_get-get_or runs hart c.in-Some.own.now counted.0
    ∙ ap Some (sym (c.in-Some.ensures.value ∙ ap (λ h. get_or runs h c.in-Some.own.now) c.from.ensures)) in
    given_one state runs (slice_set runs c.from.result c.left.result) slot same counted.0 c.with-run.result
    (c.with-run.ensures counted.1 ∙ ap (λ o. run_with (run_at o) slot.message.number slot.came) (sym known))
    (ap (λ h. slice_set runs h c.left.result) c.from.ensures ∙ ap (slice_set runs hart) c.left.ensures)
    (λ told. g.L.LiveLines.Told c.args.lines.now told c.tell_written.new.lines)
    (g.met.L.LiveLines.joined c.args.lines.now c.given_up.new.self c.tell_written.new.lines (GivenUp slot ∷ [])
    (written_lines hart c.with-run.result slot.came) c.given_up.ensures c.tell_written.ensures)
