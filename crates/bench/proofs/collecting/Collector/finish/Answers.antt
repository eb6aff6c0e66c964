-- An outcome is what came of its hart: by a lemma on lists, which no tactic finds. How many lists there are is counted
-- here too, since a search goes through all that is known of the receiver.
use Rattle.std.proofs.Common.{ap, ◌∙◌, arith, length, refl}
use Rattle.std.proofs.lemmas.List.{length-map}
use Rattle.std.specs.declared.vec.Vec.{Vec}
use Rattle.bench.proofs.CollectorLemmas.{finished_came}
use Rattle.bench.specs.Collected.{Collected}
use Rattle.bench.specs.steps.Collecting.{taken_of_outcome}
use Rattle.retire.specs.declared.event.Event.{Event}
use Rattle.bench.proofs.collecting.Collector.finish.Goals as goal

pub fill-requires-clause-lists : goal.fill-requires-clause-lists
fill-requires-clause-lists g c =
    let made = ap length c.into_parts-lists.ensures.lists in
    let lists = length-map c.into_parts-lists.result.0.items (λ (list : Vec Event _). list.items) in
    let own = c.self.invariant.received.lists in
    let harts = c.self.invariant.harts in
    let taken = length-map c.self.inside.harts.items taken_of_outcome in omega (arith, made, lists, own, harts, taken)

pub fill-requires-clause-closed : goal.fill-requires-clause-closed
fill-requires-clause-closed g c =
    let made = ap length (c.deref.ensures.value ∙ c.into_parts-lists.ensures.closed) in
    let own = c.self.invariant.received.closed in
    let harts = c.self.invariant.harts in
    let taken = length-map c.self.inside.harts.items taken_of_outcome in omega (arith, made, own, harts, taken)

pub returns-clause-stop : goal.returns-clause-stop
returns-clause-stop g c = refl

pub returns-clause-count : goal.returns-clause-count
returns-clause-count g c =
    let same = ap length c.fill.ensures.taken in
    let new = length-map c.fill.new.harts.items taken_of_outcome in
    let harts = c.self.invariant.harts in
    let logs = c.self.invariant.logs in
    let seen = ap (λ (r : Collected). length r.logs) c.self.view_is in omega (arith, same, new, harts, logs, seen)

pub returns-clause-came : goal.returns-clause-came
returns-clause-came g c = λ hart got refused.
    finished_came c.fill.new.harts.items hart got refused c.args.self
    (c.fill.ensures.taken ∙ ap (λ (r : Collected). r.harts) c.self.view_is)
    (c.fill.ensures.decoded ∙ c.into_parts-lists.ensures.lists
    ∙ ap (λ (r : Collected). r.received.lists) c.self.view_is)
    (c.fill.ensures.closed ∙ c.deref.ensures.value ∙ c.into_parts-lists.ensures.closed
    ∙ ap (λ (r : Collected). r.received.closed) c.self.view_is)
