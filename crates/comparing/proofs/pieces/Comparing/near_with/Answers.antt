-- The rows stay, or the place goes on: by lemmas on that.
use Rattle.std.proofs.Common.{◌≡◌, ◌∙◌, ◌-◌, slice_get, subst, sym}
use Rattle.comparing.specs.steps.Moved.{IsMoved}
use Rattle.comparing.proofs.ComparedCounts.{near_on, near_same}
use Rattle.comparing.proofs.pieces.Comparing.near_with.Goals as goal

pub returns-then-not-are_alike : goal.returns-then-not-are_alike
returns-then-not-are_alike c = λ before seen has next few alike.
    near_same before seen c.args.decoded.now c.args.events.now c.args.self.now has next few
    (sym c.are_alike.ensures ∙ c.if-not-are_alike.true)

pub returns : goal.returns
returns c = λ before seen has next few alike.
    let decoded = c.args.decoded.now in
    let events = c.args.events.now in
    let near = c.args.self.now.near in
    let moved = c.moved.result in
    let same = c.saturating_sub.ensures in
    let said = c.moved.ensures in
    near_on before seen decoded events c.args.self.now has next few (sym c.are_alike.ensures ∙ c.if-not-are_alike.false)
    c.args.alike alike moved (subst (λ n. moved.log ≡ slice_get events n) same said.log)
    (subst (λ n. moved.decoded ≡ slice_get decoded n) same said.decoded)
    (subst (λ n. IsMoved 1 n decoded near moved.one_before) same said.one)
    (subst (λ n. IsMoved 2 n decoded near moved.two_before) same said.two)
    (subst (λ n. IsMoved 3 n decoded near moved.three_before) same said.three)
