-- One message after the other is given up: by lemmas on steps, which no tactic finds.
use Rattle.std.proofs.Common.{◌≡◌, ◌∙◌, ◌≤◌, Some, ap, arith, false, length, true, slice_get, subst, sym}
use Rattle.std.proofs.lemmas.List.{take_all}
use Rattle.std.proofs.lemmas.Option.{slice_get-get_or}
use Rattle.live.specs.Live.{gives_all}
use Rattle.live.specs.steps.Giving.{IsGiven}
use Rattle.live.proofs.Telling.{given_next}
use Rattle.live.proofs.giving.give_all.Goals.{in-Some, in_default}
use Rattle.live.proofs.giving.give_all.Goals as goal

pub loop-place-preserved : goal.loop-place-preserved
loop-place-preserved g c =
    let slots = c.args.slots.now.items in
    let place = c.loop-place.place in
    let runs = c.args.runs.now.items in
    let less = c.loop-place-test.true in
    let count = c.len-place-end.ensures in
    let ok = c.args.slots.now.ok.0 in
    elim c.match-get.branch [
      | in-Some w ↦
          let slot = w.in-Some.slot.now in
          let at : slice_get slots place ≡ Some slot =
          slice_get-get_or slots place slot (omega (arith, less, count, ok)) ∙ ap Some (sym w.in-Some.ensures.lookup) in
          rw (w.runs-is, w.lines-is)
          (given_next g.row.L.Denot (λ first told last. g.L.LiveLines.Told first told last) g.met.L.LiveLines.joined
          c.args.lines.now c.loop-place.lines w.give.new.lines runs c.loop-place.runs.items w.give.new.runs.items
          slots place slot at c.loop-place.invariant w.give.ensures.given w.give.ensures.count)
      | in_default w ↦
          let never : false ≡ true = w.in_default.ensures.variant.1 (omega (arith, less, count)) in cc
    ]

pub returns-clause-given : goal.returns-clause-given
returns-clause-given g c = λ state same counted.
    let slots = c.args.slots.now.items in
    let past : length slots ≤ c.loop-place.place =
    let no_less = c.loop-place-test.false in
    let count = c.len-place-end.ensures in
    let ok = c.args.slots.now.ok.0 in
    omega (arith, no_less, count, ok) in
    subst (λ l. IsGiven (λ told. g.L.LiveLines.Told c.args.lines.now told c.loop-place.lines) (gives_all state l)
    c.loop-place.runs.items) (take_all c.loop-place.place slots past) (c.loop-place.invariant.1 state same counted)
