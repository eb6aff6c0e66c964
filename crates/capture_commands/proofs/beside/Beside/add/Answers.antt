-- Some events more are compared: by a lemma on the first of a list.
use Rattle.std.proofs.Common.{◌≡◌, ◌≤◌, ◌∙◌, ◌-◌, ◌++◌, ap, append-nil, append_assoc, arith, drop, length, subst, sym, take}
use Rattle.std.proofs.Common.{take-append-drop}
use Rattle.std.proofs.Math.Seq.{take-add}
use Rattle.std.proofs.lemmas.List.{length-append, length-drop, take_all}
use Rattle.retire.specs.Log.{most_long_rows}
use Rattle.capture_commands.specs.steps.Beside.{IsBeside}
use Rattle.capture_commands.proofs.beside.Beside.add.Goals as goal

pub loop-done-init : goal.loop-done-init
loop-done-init c = record {
  within = omega arith;
  beside = λ log seen is few. subst (λ l. IsBeside log l c.args.self.now) (sym (append-nil seen)) is;
}

pub loop-done-preserved : goal.loop-done-preserved
loop-done-preserved c =
    let events = c.args.events.now in
    let done = c.loop-done.done in
    let count = c.add_some-done.result in
    let left = length-drop done events in
    let within = c.add_some-done.ensures.within in
    let inside = c.loop-done.invariant.within in
    let rest : take (length events - done) (drop done events) ≡ drop done events =
    take_all (length events - done) (drop done events) (omega (arith, left)) in
    record {
      within = omega (arith, left, within, inside, ap length rest);
      beside = λ log seen is few.
          let so_far = seen ++ take done events in
          let all = length-append so_far (drop done events) in
          let front = length-append seen (take done events) in
          let whole = ap length (take-append-drop done events) in
          let parts = length-append (take done events) (drop done events) in
          let total = length-append seen events in
          let short : length (so_far ++ drop done events) ≤ most_long_rows =
          omega (arith, all, front, whole, parts, total, few) in
          let next = c.add_some-done.ensures.added log so_far (c.loop-done.invariant.beside log seen is few)
          (subst (λ l. length (so_far ++ l) ≤ most_long_rows) (sym rest) short) in
          subst (λ came. IsBeside log came c.add_some-done.new.self)
          (ap (λ l. so_far ++ take count l) rest ∙ append_assoc seen (take done events) (take count (drop done events))
          ∙ ap (λ l. seen ++ l) (sym (take-add done count events))) next;
    }

pub returns : goal.returns
returns c = λ log seen is few.
    subst (λ came. IsBeside log (seen ++ came) c.loop-done.self)
    (take_all c.loop-done.done c.args.events.now (omega (arith, c.loop-done-test.false)))
    (c.loop-done.invariant.beside log seen is few)
