-- Where a message is: by lemmas on what is held, which no tactic finds.
use Rattle.std.proofs.Common.{◌<◌, ◌≤◌, ◌∙◌, subst, sym}
use Rattle.live.proofs.Reading.{beyond_harts}
use Rattle.live.proofs.Searched.{at_within}
use Rattle.live.proofs.Views.{at_place, below, beyond, nowhere, unknown}
use Rattle.live.proofs.window.Window.find.Goals as goal

pub returns-in_default-clause-standing : goal.returns-in_default-clause-standing
returns-in_default-clause-standing g c = λ sent came front holds.
    unknown sent came front c.args.self.now holds c.args.hart c.args.number
    (beyond_harts c.args.self.now.harts c.args.hart (sym c.numbers.ensures ∙ c.in_default.is))

pub returns-then-number-own-clause-standing : goal.returns-then-number-own-clause-standing
returns-then-number-own-clause-standing g c = λ sent came front holds.
    let own = holds.harts c.args.hart c.in-Some.own (sym c.numbers.ensures ∙ c.in-Some.is) in
    below sent came front c.args.self.now holds c.args.hart c.args.number
    (subst (λ n. c.args.number < n) own.gone c.if-number-own.true)

pub returns-then-number-own-2-clause-standing : goal.returns-then-number-own-2-clause-standing
returns-then-number-own-2-clause-standing g c = λ sent came front holds.
    let own = holds.harts c.args.hart c.in-Some.own (sym c.numbers.ensures ∙ c.in-Some.is) in
    beyond sent came front c.args.self.now holds c.args.hart c.args.number
    (subst (λ n. n ≤ c.args.number) own.read c.if-number-own-2.true)

pub returns-in-Some-position-clause-standing : goal.returns-in-Some-position-clause-standing
returns-in-Some-position-clause-standing g c = λ sent came front holds.
    let own = holds.harts c.args.hart c.in-Some.own (sym c.numbers.ensures ∙ c.in-Some.is) in
    at_place sent came front c.args.self.now holds c.args.hart c.args.number
    (subst (λ n. n ≤ c.args.number) own.gone c.if-number-own.false) c.in-Some-position.place
    c.in-Some-position.ensures.found

pub returns-in-Some-position-clause-within : goal.returns-in-Some-position-clause-within
returns-in-Some-position-clause-within g c =
    at_within c.args.self.now.slots c.args.hart c.args.number c.in-Some-position.place c.in-Some-position.ensures.found

pub returns-in-None-clause-standing : goal.returns-in-None-clause-standing
returns-in-None-clause-standing g c = λ sent came front holds.
    let own = holds.harts c.args.hart c.in-Some.own (sym c.numbers.ensures ∙ c.in-Some.is) in
    nowhere sent came front c.args.self.now holds c.args.hart c.args.number
    (subst (λ n. n ≤ c.args.number) own.gone c.if-number-own.false) (λ k. c.in-None.ensures.none k)
