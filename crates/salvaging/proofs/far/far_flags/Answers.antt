-- That the counts above the bound are those of the far numbers is found by lemmas.
use Rattle.std.proofs.Common.{rules, ◌≤◌, ◌<◌, ◌^◌, length, map, ap, subst, sym, ◌∙◌, arith}
use Rattle.std.proofs.lemmas.List.{take_all}
use Rattle.salvaging.specs.Far.{AreFar}
use Rattle.salvaging.specs.steps.Arrivals.{arrivals_in}
use Rattle.salvaging.specs.steps.Farness.{IsBound, is_above}
use Rattle.salvaging.specs.steps.Grouping.{entries_by}
use Rattle.salvaging.proofs.CountsFit.{few_counts}
use Rattle.salvaging.proofs.FarByBound.{far_by_bound}
use Rattle.salvaging.proofs.far.far_flags.Goals as goal

pub nearest-first-requires : goal.nearest-first-requires
nearest-first-requires g c = record {
  rising = c.requires.rising;
  counted = c.as_slice-counts.ensures.value ∙ c.in_ok-all.ensures.counts;
}

pub bound_from-bound-requires-clause-few : goal.bound_from-bound-requires-clause-few
bound_from-bound-requires-clause-few g c =
    let small : length c.args.came.now < 2 ^ 63 = search rules in
    let is = c.as_slice-counts.ensures.value in
    few_counts (entries_by (arrivals_in c.args.came.now)) c.as_slice-counts.result.now (length c.args.came.now)
    (is ∙ c.in_ok-all.ensures.counts) (subst (λ l. length l ≤ length c.args.came.now) (sym is) c.in_ok-all.ensures.few)
    small

pub returns : goal.returns
returns g c =
    let entries = entries_by (arrivals_in c.args.came.now) in
    let counts = c.as_slice-counts.result.now in
    let bound = c.bound_from-bound.result in
    let are = c.as_slice-counts.ensures.value ∙ c.in_ok-all.ensures.counts in
    let end = c.loop-count-test.false in
    let past : length counts ≤ c.loop-count.count-index = omega (arith, end) in
    subst (AreFar entries)
    (sym (c.loop-count.invariant.flags ∙ ap (map (is_above bound)) (take_all c.loop-count.count-index counts past)
    ∙ ap (map (is_above bound)) are))
    (far_by_bound entries c.nearest-first.result bound c.nearest-first.ensures
    (subst (λ l. IsBound l c.nearest-first.result bound) are c.bound_from-bound.ensures.bound))
