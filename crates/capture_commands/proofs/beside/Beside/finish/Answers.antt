-- What is decoded after the end of the log is counted: by lemmas on what is compared.
use Rattle.std.proofs.Common.{◌≡◌, ◌≤◌, ◌∙◌, ◌-◌, ◌++◌, [], append-nil, arith, drop, inl, inr, length, refl, subst, sym, take}
use Rattle.std.proofs.lemmas.List.{length-drop, take_all}
use Rattle.retire.specs.Log.{most_long_rows}
use Rattle.comparing.specs.Compared.{HasCompared}
use Rattle.capture_commands.proofs.BesideLemmas.{all_compared, goes_on, rest_counted}
use Rattle.capture_commands.proofs.beside.Beside.finish.Goals as goal

pub loop-init : goal.loop-init
loop-init c = λ log seen is few. is.to

pub loop-preserved : goal.loop-preserved
loop-preserved c = λ log seen is few.
    let to = c.loop.invariant log seen is few in
    let beside = c.refill.new.self in
    let held = c.refill.ensures log seen to in
    let within = c.has_held.ensures.held c.if-not-has_held.false in
    let long = length-drop beside.at beside.piece.items in
    let short : length (seen ++ []) ≤ most_long_rows =
    subst (λ l. length l ≤ most_long_rows) (sym (append-nil seen)) few in
    let all : take (length beside.piece.items - beside.at) (drop beside.at beside.piece.items)
    ≡ drop beside.at beside.piece.items =
    take_all (length beside.piece.items - beside.at) (drop beside.at beside.piece.items) (omega (arith, long)) in
    rest_counted log seen to.before beside held within c.len-self.result (c.len-self.ensures ∙ beside.piece.ok.0)
    c.add.new.self
    (subst (λ l. HasCompared (held.to.before ++ l) (seen ++ []) c.add.new.self) all
    (subst (λ items. HasCompared (held.to.before ++ take (length items - beside.at) (drop beside.at items)) (seen ++ [])
    c.add.new.self) c.deref.ensures.value
    (c.add.ensures held.to.before seen held.to.compared
    (inr refl, inl (goes_on log seen to.before beside held within)) short)))

pub returns-then-not-has_held : goal.returns-then-not-has_held
returns-then-not-has_held c = λ log seen is few.
    let to = c.loop.invariant log seen is few in
    let held = c.refill.ensures log seen to in
    let all = all_compared log seen to.before c.refill.new.self held (c.has_held.ensures.none c.if-not-has_held.true) in
    subst (λ l. HasCompared l seen c.refill.new.self.comparing) (sym all) held.to.compared
