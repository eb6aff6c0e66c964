-- The text of the slot comes next: by lemmas on the text that is left, which no tactic finds.
use Rattle.std.proofs.Common.{◌≡◌, ◌∙◌, Err, List, Some, arith, slice_get, subst, sym, true}
use Rattle.std.proofs.lemmas.Grind.{common_steps}
use Rattle.std.specs.Io.KnownBytes.{Appends}
use Rattle.message.proofs.Elements.{slice_get-some}
use Rattle.retire.specs.declared.event.Event.{Event}
use Rattle.parallel_decode.specs.Put.{IsPut}
use Rattle.parallel_decode.proofs.PuttingLemmas.{stretch_fails, stretch_more}
use Rattle.parallel_decode.specs.declared.stretch.Stretch.{Stretch}
use Rattle.parallel_decode.specs.steps.Putting.{IsPutUpTo}
use Rattle.parallel_decode.specs.steps.Stretches.{IsPartOf, stretch_text}
use Rattle.parallel_decode.proofs.ready.write_slot.Goals.{After-put}
use Rattle.parallel_decode.proofs.ready.write_slot.Goals as goal

module _ (g : _) (c : After-put g) where
  next : (stretch : Stretch) × (slice_get c.args.plan.now.stretches.now c.args.at ≡ Some stretch)
  next = slice_get-some c.args.plan.now.stretches.now c.args.at (omega arith)

  -- The slot has what the stretch adds.
  has : (part : List Event) → IsPartOf c.args.plan.now next.0 part
      → c.as_slice.result.now ≡ stretch_text next.0 part
  has part is =
      c.as_slice.ensures.value
      ∙ c.requires.filled whole next.0 part
      (subst (λ at. slice_get c.args.plan.now.stretches.now at ≡ Some next.0) here next.1) is
    where
      here : c.args.at ≡ c.args.slot.now.place
      here = omega arith

      whole : c.args.slot.now.is_whole ≡ true
      whole = grind (arith, common_steps)

pub returns-in_err-put : goal.returns-in_err-put
returns-in_err-put g c = λ text old left.
    let mid = g.O.Write.contents c.args.out.now in
    let new = g.O.Write.contents c.put.new.out in
    let after = (goal.at.returns-in_err-put g c).After-put in
    let why = c.in_err-put.field-0.0 in
    let failed : c.from_residual.result ≡ Err why = grind (arith, common_steps) in
    subst (λ ended. IsPutUpTo c.args.plan.now ended text old new) (sym failed)
    (stretch_fails c.args.plan.now c.args.at (next g after).0 (next g after).1 text old mid left why new
    (λ part is. subst (IsPut (Err why) mid new) (has g after part is) c.in_err-put.ensures))

pub returns : goal.returns
returns g c = λ text old left.
    let mid = g.O.Write.contents c.args.out.now in
    let new = g.O.Write.contents c.put.new.out in
    let after = (goal.at.returns g c).After-put in
    stretch_more c.args.plan.now c.args.at (next g after).0 (next g after).1 text old mid left new
    (λ part is. subst (Appends mid new) (has g after part is) c.in_ok-put.ensures)
