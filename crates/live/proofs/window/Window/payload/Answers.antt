-- The payload is that of a message of SENT: by lemmas on what is held, which no tactic finds.
use Rattle.std.proofs.Common.{◌≡◌, ◌∙◌, Some, ap, arith, false, slice_get, sym, true}
use Rattle.std.proofs.lemmas.Bool.{both_ways}
use Rattle.std.proofs.lemmas.Option.{slice_get-get_or}
use Rattle.live.specs.Holding.{Holding}
use Rattle.live.proofs.InView.{held_payload, held_there}
use Rattle.live.proofs.Searched.{at_within}
use Rattle.live.specs.steps.Searching.{is_at}
use Rattle.live.proofs.window.Window.payload.Goals as goal

pub returns-in-Some-get : goal.returns-in-Some-get
returns-in-Some-get g c = λ sent came front place holds at.
    let slots = c.self.inside.slots.items in
    let same = ap (λ (o : Holding). o.slots) c.self.view_is in
    let own = c.in-Some-get.slot.now in
    let found : is_at slots c.args.hart c.args.number c.in-Some.place ≡ true =
    ap (λ l. is_at l c.args.hart c.args.number c.in-Some.place) same ∙ c.in-Some.ensures.found in
    let is : slice_get c.args.self.now.slots c.in-Some.place ≡ Some own =
    ap (λ l. slice_get l c.in-Some.place) (sym same)
    ∙ slice_get-get_or slots c.in-Some.place own (at_within slots c.args.hart c.args.number c.in-Some.place found)
    ∙ ap Some (sym c.in-Some-get.ensures.lookup) in
    ap Some c.bytes.ensures.same
    ∙ held_payload sent came front c.args.self.now holds c.args.hart c.args.number c.in-Some.place own is
    c.in-Some.ensures.found

pub returns-in-None-get : goal.returns-in-None-get
returns-in-None-get g c = λ sent came front place holds at.
    let slots = c.self.inside.slots.items in
    let same = ap (λ (o : Holding). o.slots) c.self.view_is in
    let found : is_at slots c.args.hart c.args.number c.in-Some.place ≡ true =
    ap (λ l. is_at l c.args.hart c.args.number c.in-Some.place) same ∙ c.in-Some.ensures.found in
    let within = at_within slots c.args.hart c.args.number c.in-Some.place found in
    let ok = c.self.inside.slots.ok.0 in
    let never : false ≡ true = c.in-None-get.ensures.variant.1 (omega (arith, within, ok)) in cc

pub returns-in-None : goal.returns-in-None
returns-in-None g c = λ sent came front place holds at.
    absurd (both_ways _ (c.in-None.ensures.none place)
    (held_there sent came front c.args.self.now holds c.args.hart c.args.number place at))
