-- The slot has the text of the stretch at the place: by lemmas on what is at a place of a list.
use Rattle.std.proofs.Common.{◌≡◌, ◌∙◌, Some, ap, get_or, slice_get, subst, sym}
use Rattle.std.proofs.lemmas.Option.{slice_get-get_or}
use Rattle.parallel_decode.proofs.PuttingLemmas.{have_part, put_into}
use Rattle.parallel_decode.specs.declared.stretch.Stretch.{Stretch}
use Rattle.parallel_decode.specs.steps.Stretches.{IsPartOf, stretch_text}
use Rattle.parallel_decode.proofs.slot.fill_slot.Goals.{After-index-plan-place}
use Rattle.parallel_decode.proofs.slot.fill_slot.Goals as goal

module _ (c : After-index-plan-place) where
  abbrev own : Stretch
  own = get_or c.args.plan.now.stretches.now c.args.place c.index-plan-place.result

  here : slice_get c.args.plan.now.stretches.now c.args.place ≡ Some own
  here = slice_get-get_or c.args.plan.now.stretches.now c.args.place c.index-plan-place.result c.requires.within

pub write_stretch-written-requires : goal.write_stretch-written-requires
write_stretch-written-requires c =
    have_part c.args.plan.now c.args.place _
    (here (goal.at.write_stretch-written-requires c).After-index-plan-place) c.requires.sound

pub returns : goal.returns
returns c = λ full stretch part at is.
    let after = (goal.at.returns c).After-index-plan-place in
    let mine = here after in
    let same : stretch ≡ own after = cc (at, mine) in
    put_into c.write_stretch-written.result c.clear.new.self.items c.write_stretch-written.new.out.held.items
    (stretch_text (own after) part) (sym c.is_ok-slot.ensures.value ∙ full) c.clear.ensures.items
    (c.write_stretch-written.ensures part (subst (λ s. IsPartOf c.args.plan.now s part) same is))
    ∙ ap (λ s. stretch_text s part) (sym same)
