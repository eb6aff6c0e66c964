-- The next run stands behind the flags that are set in front: by a law on flags.
use Rattle.std.proofs.Common.{take, drop, refl, sym, arith, ◌∙◌, ap}
use Rattle.std.specs.Prelude.{not}
use Rattle.std.proofs.lemmas.List.Sums.{prefix_len-le-length}
use Rattle.auditing.proofs.RunLemmas.{next_run, none_left}
use Rattle.auditing.proofs.lost.LostRuns.next.Goals as goal

pub split_at-requires : goal.split_at-requires
split_at-requires c =
    let is = c.first_lost.ensures in
    let within = prefix_len-le-length (λ flag. not (not flag)) c.self.inside.came.now in
    omega (arith, is, within)

pub split_at-requires-2 : goal.split_at-requires-2
split_at-requires-2 c =
    let is = c.first_set.ensures in
    let within = prefix_len-le-length (λ flag. not flag) c.split_at.result.1.now in
    omega (arith, is, within)

pub returns-then-is_empty-clause-next : goal.returns-then-is_empty-clause-next
returns-then-is_empty-clause-next c =
    let flags = c.self.inside.came.now in
    let left = c.split_at.result.1.now in
    sym c.self.view_is
    ∙ next_run c.self.inside.number flags left c.split_at-2.result.0.now c.split_at-2.result.1.now _ _ _
    (c.split_at.ensures.back ∙ ap (λ n. drop n flags) c.first_lost.ensures)
    (c.split_at-2.ensures.front ∙ ap (λ n. take n left) c.first_set.ensures)
    (c.split_at-2.ensures.back ∙ ap (λ n. drop n left) c.first_set.ensures)
    refl refl (sym c.is_empty.ensures ∙ c.if-is_empty.true)

pub returns-clause-next : goal.returns-clause-next
returns-clause-next c =
    let flags = c.self.inside.came.now in
    let left = c.split_at.result.1.now in
    sym c.self.view_is
    ∙ next_run c.self.inside.number flags left c.split_at-2.result.0.now c.split_at-2.result.1.now _ _ _
    (c.split_at.ensures.back ∙ ap (λ n. drop n flags) c.first_lost.ensures)
    (c.split_at-2.ensures.front ∙ ap (λ n. take n left) c.first_set.ensures)
    (c.split_at-2.ensures.back ∙ ap (λ n. drop n left) c.first_set.ensures)
    refl refl (sym c.is_empty.ensures ∙ c.if-is_empty.false)

pub returns-then-is_empty-clause-end : goal.returns-then-is_empty-clause-end
returns-then-is_empty-clause-end c = λ none.
    let flags = c.self.inside.came.now in
    let left = c.split_at.result.1.now in
    sym c.self.view_is
    ∙ none_left c.self.inside.number flags left c.split_at-2.result.0.now
    (c.split_at.ensures.back ∙ ap (λ n. drop n flags) c.first_lost.ensures)
    (c.split_at-2.ensures.front ∙ ap (λ n. take n left) c.first_set.ensures)
    (sym c.is_empty.ensures ∙ c.if-is_empty.true)
