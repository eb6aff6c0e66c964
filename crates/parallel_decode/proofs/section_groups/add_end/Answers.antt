-- Sections more, of their hart.
use Rattle.std.proofs.Common.{◌≡◌, ◌∙◌, ℕ, All, Global, Vec, ap, get_or, refl, slice_get, subst, sym}
use Rattle.std.proofs.lemmas.List.Elements.{All-append}
use Rattle.std.proofs.lemmas.Option.{same_Some}
use Rattle.rvclass.specs.Fetch.{words_of}
use Rattle.parallel_decode.proofs.EndLemmas.{found-at}
use Rattle.parallel_decode.specs.steps.Sections.{IsOfHarts, IsSectionEnd}
use Rattle.parallel_decode.proofs.section_groups.add_end.Goals as goal

pub returns : goal.returns
returns c = λ all.
    let words = words_of c.args.work.now.program.now in
    let announced = c.args.work.now.announced in
    let bytes = c.args.work.now.bytes.now in
    let places = c.args.places.now in
    let grown = c.in_ok-receive_section.ensures in
    subst (All (IsOfHarts words announced bytes places)) (sym grown.behind)
    (All-append (IsOfHarts words announced bytes places) c.args.ends.now.items grown.added all
    (λ k any within. λ hart own its here.
    let both = grown.are k any within in
    let found = c.in-Some.ensures.lookup in
    let at = found-at places c.args.section.hart c.args.section.hart c.in-Some.own.now found.0 found.1 refl in
    let same : c.in-Some.own.now ≡ own =
    same_Some c.in-Some.own.now own (sym at ∙ ap (λ h. slice_get places h) (sym both.0 ∙ here) ∙ its) in
    subst (λ items. IsSectionEnd words announced bytes items (get_or grown.added k any))
    (c.as_slice.ensures.value ∙ ap (λ (own : Vec ℕ Global). own.items) same) both.1))
