-- What is said of the stretch that was found is not yet said of the place and the event that it ends with.
use Rattle.std.proofs.Common.{◌≡◌, None, sym, subst}
use Rattle.std.specs.Prelude.{Ok, OnOk, IfErr}
use Rattle.rvclass.specs.Fetch.{words_of}
use Rattle.decoder.proofs.PlanFollows.{plans, plans_none}
use Rattle.decoder.specs.Fits.{Fits}
use Rattle.decoder.specs.steps.Stretches.{stretch_last, Suits, SuitsNone}
use Rattle.decoder.specs.steps.Planning.{admitted}
use Rattle.decoder.proofs.decoding.Decoder.plan.Goals as goal

pub returns-clause-found : goal.returns-clause-found
returns-clause-found g c =
    let w = words_of c.args.paths.program.now in
    let d = c.args.self.now in
    let p = c.args.packet.now in
    let first = c.settled.new.stretch in
    let second = c.events_of_packet.new.stretch in
    let of_packet = subst (λ l. OnOk c.events_of_packet.result
    (Suits w l (Fits w d.mode l c.place-reported.result p None) second))
    c.last-last.ensures c.events_of_packet.ensures.found in
    let of_packet' = subst (λ r. OnOk c.events_of_packet.result
    (Suits w (stretch_last d.last first) (Fits w d.mode (stretch_last d.last first) r p None) second))
    c.place-reported.ensures of_packet in
    let admits : admitted d.phase p ≡ Ok tt = sym c.in_ok-admit.ensures in
    plans w d p first second c.events_of_packet.result admits (c.if-not-may_come.ensures.0 cc)
    c.in_ok-settled.ensures.found of_packet'

pub returns-clause-none : goal.returns-clause-none
returns-clause-none g c =
    let w = words_of c.args.paths.program.now in
    let d = c.args.self.now in
    let first = c.settled.new.stretch in
    let none = subst (λ l. IfErr c.events_of_packet.result
    (SuitsNone w l (Fits w d.mode l c.place-reported.result c.args.packet.now None)))
    c.last-last.ensures c.events_of_packet.ensures.none in
    let none' = subst (λ r. IfErr c.events_of_packet.result
    (SuitsNone w (stretch_last d.last first) (Fits w d.mode (stretch_last d.last first) r c.args.packet.now None)))
    c.place-reported.ensures none in
    let admits : admitted d.phase c.args.packet.now ≡ Ok tt = sym c.in_ok-admit.ensures in
    plans_none w d c.args.packet.now c.args.paths.bound.words first c.events_of_packet.result admits
    c.in_ok-settled.ensures.found none'
