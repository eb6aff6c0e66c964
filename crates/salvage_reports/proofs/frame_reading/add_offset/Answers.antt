-- Which list has the offset more is found by lemmas on lists.
use Rattle.std.proofs.Common.{rules, ◌≡◌, ◌<◌, ◌≤◌, ◌++◌, [], ◌∷◌, length, refl, sym, ap, subst, ◌∙◌}
use Rattle.std.proofs.Common.{slice_get, Some}
use Rattle.std.proofs.Common.{slice_set}
use Rattle.std.specs.Vec.{vec_len}
use Rattle.std.proofs.lemmas.Option.{slice_get_read}
use Rattle.salvage_reports.specs.steps.Reading.{AddsOffset}
use Rattle.salvage_reports.proofs.OffsetLists.{adds_own, adds_unknown}
use Rattle.salvage_reports.proofs.frame_reading.add_offset.Goals as goal

pub returns-in_ok-reserve-in-Some : goal.returns-in_ok-reserve-in-Some
returns-in_ok-reserve-in-Some c =
    let lists = c.args.lists.now.items in
    let list = c.in-Some.list.now in
    let new = c.push_reserved.new.self in
    let counted : vec_len c.args.lists.now ≡ length lists = c.args.lists.now.ok.0 in
    let within : c.from.result < length lists = subst (λ n. c.from.result < n) counted
    (c.in-Some.ensures.variant.0 refl) in
    let here : slice_get lists c.args.hart ≡ Some list =
    subst (λ h. slice_get lists h ≡ Some list) c.from.ensures
    (slice_get_read lists (length lists) c.from.result list refl within c.in-Some.ensures.value) in
    let pushed = c.push_reserved.ensures.items ∙ ap (λ l. l ++ c.args.offset ∷ []) c.in_ok-reserve-in-Some.ensures.items
    in
    subst (λ h. AddsOffset c.args.hart c.args.offset lists (slice_set lists h new)) (sym c.from.ensures)
    (adds_own c.args.hart c.args.offset lists list new here pushed)

pub returns-in-None : goal.returns-in-None
returns-in-None c =
    let lists = c.args.lists.now.items in
    let over : length lists ≤ c.args.hart = search rules in
    adds_unknown c.args.hart c.args.offset lists over
