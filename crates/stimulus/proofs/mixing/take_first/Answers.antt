-- The messages of the hart of this number: by lemmas on lists, which no tactic finds.
use Rattle.std.proofs.Common.{◌≡◌, ◌<◌, ◌≤◌, Some, [], arith, get_or, length, refl, set, slice_get, subst, sym}
use Rattle.std.proofs.lemmas.Option.{slice_get_read}
use Rattle.stimulus.specs.steps.Drawing.{TakesFirst}
use Rattle.stimulus.proofs.TurnLemmas.{none_taken, one_taken}
use Rattle.stimulus.proofs.mixing.take_first.Goals as goal

pub returns-then-place-len : goal.returns-then-place-len
returns-then-place-len g c = λ messages fronts.
    let left = c.args.left.now.items in
    let past : length left ≤ c.args.hart =
    omega (arith, c.if-place-len.true, c.len.ensures, c.args.left.now.ok.0, c.from-place.ensures) in
    none_taken messages c.args.hart left fronts past

pub returns : goal.returns
returns g c = λ messages fronts.
    let left = c.args.left.now.items in
    let place = c.from-place.result in
    let hart = c.args.hart in
    let within : place < length left = omega (arith, c.if-place-len.false, c.len.ensures, c.args.left.now.ok.0) in
    let at = slice_get_read left (length left) place c.index_mut.result.now refl within c.index_mut.ensures.value in
    subst (λ p. TakesFirst messages hart (get_or messages hart []) c.next_of.result (set left p c.next_of.new.own))
    (sym c.from-place.ensures)
    (one_taken messages hart left c.index_mut.result.now c.next_of.new.own c.next_of.result fronts
    (subst (λ p. slice_get left p ≡ Some c.index_mut.result.now) c.from-place.ensures at) c.next_of.ensures.taken)
