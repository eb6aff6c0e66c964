-- Which list has the message more is found by lemmas on lists.
use Rattle.std.proofs.Common.{rules, ◌≡◌, ◌<◌, ◌≤◌, ◌++◌, true, [], ◌∷◌, length, refl, sym, ap, subst, ◌∙◌}
use Rattle.std.proofs.Common.{slice_get, Some}
use Rattle.std.proofs.Common.{slice_set}
use Rattle.std.specs.Vec.{vec_len}
use Rattle.std.proofs.lemmas.List.{map-append}
use Rattle.std.proofs.lemmas.Option.{slice_get_read}
use Rattle.salvaging.specs.Strangers.{has_number}
use Rattle.salvaging.specs.declared.received.ReceivedMessage.{ReceivedMessage}
use Rattle.salvaging.specs.steps.Arrivals.{arrival_of, arrivals_in}
use Rattle.salvaging.specs.steps.Distributing.{AddsArrival}
use Rattle.salvaging.proofs.Distributed.{adds_own, adds_unknown}
use Rattle.salvaging.proofs.distributing.add.Goals as goal

pub returns-in_ok-reserve-in-Some : goal.returns-in_ok-reserve-in-Some
returns-in_ok-reserve-in-Some g c =
    let lists = c.args.lists.now.items in
    let message = c.args.message.now in
    let list = c.in-Some.list.now in
    let new = c.push_reserved.new.self in
    let came : ReceivedMessage = record { place = c.len-place.result; message = c.args.message } in
    let counted : vec_len c.args.lists.now ≡ length lists = c.args.lists.now.ok.0 in
    let within : c.from.result < length lists = subst (λ n. c.from.result < n) counted
    (c.in-Some.ensures.variant.0 refl) in
    let has : has_number message ≡ true = search rules in
    let at : c.len-place.result ≡ length list.items = search rules in
    let here : slice_get lists message.hart ≡ Some list =
    subst (λ h. slice_get lists h ≡ Some list) c.from.ensures
    (slice_get_read lists (length lists) c.from.result list refl within c.in-Some.ensures.value) in
    let pushed = c.push_reserved.ensures.items ∙ ap (λ l. l ++ came ∷ []) c.in_ok-reserve-in-Some.ensures.items in
    subst (λ h. AddsArrival message lists (slice_set lists h new)) (sym c.from.ensures)
    (adds_own message lists list new has here
    (ap arrivals_in pushed ∙ map-append arrival_of list.items (came ∷ [])
    ∙ ap (λ n. arrivals_in list.items ++ record { place = n; message = message } ∷ []) at))

pub returns-in-None : goal.returns-in-None
returns-in-None g c =
    let lists = c.args.lists.now.items in
    let message = c.args.message.now in
    let over : length lists ≤ message.hart = search rules in
    adds_unknown message lists over
