-- Some of the events of the log are compared, or all are counted: by lemmas on what is compared.
use Rattle.std.proofs.Common.{◌≤◌, ◌∙◌, ◌+◌, ◌-◌, ◌≡◌, ◌++◌, arith, drop, inl, inr, le_refl, length, refl, subst, sym, take}
use Rattle.std.proofs.Math.Nat.{min-le_left, min-le_right}
use Rattle.std.proofs.lemmas.List.{length-append, length-take-le, take_all}
use Rattle.comparing.specs.Compared.{HasCompared}
use Rattle.capture_commands.proofs.BesideLemmas.{both_compared, goes_on, log_alone}
use Rattle.capture_commands.specs.steps.Beside.{IsBeside}
use Rattle.capture_commands.proofs.beside.Beside.add_some.Goals as goal

pub returns-then-not-has_held-clause-added : goal.returns-then-not-has_held-clause-added
returns-then-not-has_held-clause-added c = λ log seen is few.
    let events = c.args.events.now in
    let held = c.refill.ensures log seen is.to in
    let over = c.has_held.ensures.none c.if-not-has_held.true in
    let short : length held.to.before ≤ length seen = subst (λ l. length l ≤ length seen) (sym held.same) is.few in
    let next = log_alone log seen is.to.before c.refill.new.self held over short events c.add.new.self
    (c.add.ensures held.to.before seen held.to.compared (inl short, inr refl) few) in
    subst (λ came. IsBeside log (seen ++ came) (record c.refill.new.self { comparing = c.add.new.self }))
    (sym (take_all (length events) events (le_refl _))) next

pub returns-clause-added : goal.returns-clause-added
returns-clause-added c = λ log seen is few.
    let events = c.args.events.now in
    let beside = c.refill.new.self in
    let held = c.refill.ensures log seen is.to in
    let within = c.has_held.ensures.held c.if-not-has_held.false in
    let count = c.min-count.result in
    let most = c.min-count.ensures in
    let many = c.len.ensures ∙ beside.piece.ok.0 in
    let right = min-le_right (length events) (c.len.result - beside.at) in
    let some : count ≤ length beside.piece.items - beside.at =
    omega (arith, most, right, many) in
    let fewer : count ≤ length events = subst (λ n. n ≤ length events) (sym most) (min-le_left (length events) _) in
    let short : length held.to.before ≤ length seen = subst (λ l. length l ≤ length seen) (sym held.same) is.few in
    let same = length-take-le count events fewer in
    let all = length-append seen events in
    let part = length-append seen (take count events) in
    let compared = c.add-2.ensures held.to.before seen held.to.compared
    (inl short, inl (goes_on log seen is.to.before beside held within)) (omega (arith, few, all, part, same, fewer)) in
    let back : beside.at + count - beside.at ≡ count = omega arith in
    let now = subst (λ n. HasCompared (held.to.before ++ take n (drop beside.at c.deref.result.now))
    (seen ++ take count events) c.add-2.new.self) back compared in
    both_compared log seen is.to.before beside held within count some (take count events) c.add-2.new.self
    (subst (λ items. HasCompared (held.to.before ++ take count (drop beside.at items)) (seen ++ take count events)
    c.add-2.new.self) c.deref.ensures.value now) short same
