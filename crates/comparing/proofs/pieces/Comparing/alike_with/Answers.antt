-- How many are alike of lists that go on: by lemmas on that.
use Rattle.std.proofs.Common.{◌∙◌, ◌+◌, ◌-◌, ◌^◌, ap, sym}
use Rattle.std.specs.Prelude.{min}
use Rattle.std.proofs.Math.Nat.{min-eq_left}
use Rattle.comparing.proofs.ComparedCounts.{alike_more, alike_same, alike_short}
use Rattle.comparing.proofs.pieces.Comparing.alike_with.Goals as goal

pub returns-then-not-are_alike : goal.returns-then-not-are_alike
returns-then-not-are_alike c = λ before seen has next few.
    sym (alike_same before seen c.args.decoded.now c.args.events.now c.args.self.now has next few
    (sym c.are_alike.ensures ∙ c.if-not-are_alike.true))

pub returns : goal.returns
returns c = λ before seen has next few.
    let decoded = c.args.decoded.now in
    let events = c.args.events.now in
    let more = alike_more before seen decoded events c.args.self.now has next few
    (sym c.are_alike.ensures ∙ c.if-not-are_alike.false) in
    c.saturating_add.ensures ∙ ap (λ n. min (c.args.self.now.alike + n) (2 ^ 64 - 1)) c.count_alike.ensures
    ∙ min-eq_left (alike_short before seen decoded events c.args.self.now has next few (sym more))
    ∙ sym more
