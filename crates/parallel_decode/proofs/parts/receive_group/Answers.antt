-- One hart more.
use Rattle.std.proofs.Common.{◌≡◌, ◌∙◌, ℕ, All, Global, Vec, ap, refl, subst, sym}
use Rattle.std.proofs.lemmas.List.Elements.{All-push}
use Rattle.std.proofs.lemmas.Option.{same_Some}
use Rattle.rvclass.specs.Fetch.{words_of}
use Rattle.parallel_decode.proofs.EndLemmas.{found-at}
use Rattle.parallel_decode.proofs.SectionLemmas.{all-of-hart}
use Rattle.parallel_decode.specs.steps.Ends.{IsEnd, IsEntry}
use Rattle.parallel_decode.specs.steps.Sections.{IsOfHart}
use Rattle.parallel_decode.proofs.parts.receive_group.Goals as goal

pub loop-hart-preserved : goal.loop-hart-preserved
loop-hart-preserved c = λ all.
    let words = words_of c.args.work.now.program.now in
    let announced = c.args.work.now.announced in
    let bytes = c.args.work.now.bytes.now in
    let places = c.args.places.now in
    subst (All (IsEntry words announced bytes places)) (sym c.in_ok-push.ensures.items)
    (All-push (IsEntry words announced bytes places) c.loop-hart.entries.items _ (c.loop-hart.invariant all)
    (λ own its.
    let found = c.in-Some.ensures.lookup in
    let at = found-at places c.loop-hart.hart c.loop-hart.hart c.in-Some.own.now found.0 found.1 refl in
    let same : c.in-Some.own.now ≡ own = same_Some c.in-Some.own.now own (sym at ∙ its) in
    subst (λ items. IsEnd words announced bytes items c.in_ok-end.end)
    (c.as_slice.ensures.value ∙ ap (λ (own : Vec ℕ Global). own.items) same)
    (c.in_ok-end.ensures (subst (λ items. All (IsOfHart words announced bytes items c.loop-hart.hart) c.args.sections.now)
    (sym c.as_slice.ensures.value)
    (all-of-hart words announced bytes places c.loop-hart.hart c.in-Some.own.now c.args.sections.now at all)))))
