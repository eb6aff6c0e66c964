-- A collector sees outcomes as what came of harts, so what was written of one has to be said of all: by laws on lists,
-- which no tactic finds.
use Rattle.std.proofs.Common.{true, ap, arith, length, refl, set}
use Rattle.std.proofs.lemmas.List.{length-map, length-set}
use Rattle.bench.specs.Collected.{Collected}
use Rattle.bench.specs.steps.Collecting.{taken_in, taken_of_outcome}
use Rattle.bench.proofs.CollectorLemmas.{refused_came, refused_others}
use Rattle.bench.proofs.collecting.Collector.refuse.Goals as goal

pub index_mut-requires : goal.index_mut-requires
index_mut-requires g c =
    let known = c.requires.known in
    let seen = ap (λ (r : Collected). length r.logs) c.self.view_is in
    let logs = c.self.invariant.logs in
    let harts = c.self.invariant.harts in
    let taken = length-map c.self.inside.harts.items taken_of_outcome in
    let counted = c.self.inside.harts.ok.0 in
    let hart = c.from.ensures in omega (arith, known, seen, logs, harts, taken, counted, hart)

pub invariant_of-self : goal.invariant_of-self
invariant_of-self g c =
    let harts = c.self.inside.harts.items in
    let old = length-map harts taken_of_outcome in
    let new = set harts c.from.result (record c.index_mut.result.now { refused = true }) in
    let taken = length-map new taken_of_outcome in
    let same = length-set harts c.from.result (record c.index_mut.result.now { refused = true }) in
    let counted = c.self.invariant.harts in
    record {
      received = c.self.invariant.received;
      logs = c.self.invariant.logs;
      harts = omega (arith, old, taken, same, counted);
      legal = c.self.invariant.legal;
    }

pub returns : goal.returns
returns g c =
    let harts = c.self.inside.harts.items in
    let old = c.index_mut.result.now in
    let new = record old { refused = true } in
    record {
      refused =
          refused_came c.self.inside.logs.now c.self.inside.keep c.self.inside.receiver harts c.from.result c.args.hart
          c.from.ensures old new c.index_mut.ensures.value c.args.self.now c.self.view_is c.requires.known
          c.self.invariant refl;
      others =
          refused_others c.self.inside.logs.now c.self.inside.keep c.self.inside.receiver harts c.from.result
          c.args.hart c.from.ensures old new c.index_mut.ensures.value c.args.self.now c.self.view_is;
      same =
          ap (λ (r : Collected). record r { harts = taken_in (set harts c.from.result new) }) c.self.view_is;
    }
