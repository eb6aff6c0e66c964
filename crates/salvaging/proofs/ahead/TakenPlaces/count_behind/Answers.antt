-- One level more is counted: said here, since a search goes through the counts of all levels.
use Rattle.std.proofs.Common.{◌≡◌, ◌<◌, ◌+◌, ◌/◌, ℕ, List, arith, drop, get_or, length, ap, subst, sym, ◌∙◌}
use Rattle.std.specs.Prelude.{count_by, sum}
use Rattle.std.specs.declared.vec.Vec.{Vec}
use Rattle.std.proofs.lemmas.List.{at_drop_all}
use Rattle.salvaging.specs.steps.Ahead.{AreLevels, block_behind, blocks_behind, lists_in}
use Rattle.salvaging.proofs.BlockCounts.{levels_from}
use Rattle.salvaging.proofs.ahead.TakenPlaces.count_behind.Goals as goal

-- The next level has a count for each block of the one below, and what is counted so far and from it on is all.
next_level : {A : Type 0} (levels slice : List (Vec ℕ A)) (k : ℕ) (level : Vec ℕ A) (long at count all : ℕ)
    → slice ≡ levels → k < length slice → level ≡ get_or slice k level → AreLevels long (lists_in (drop k levels))
    → count + blocks_behind at (lists_in (drop k levels)) ≡ all
    → (length level.items ≡ long / 64 + 1)
    × AreLevels (length level.items) (lists_in (drop (k + 1) levels))
    × (count + (sum (block_behind level.items (at / 64)) + blocks_behind (at / 64) (lists_in (drop (k + 1) levels)))
    ≡ all)
next_level levels slice k level long at count all same within is are counted =
    let from = levels_from levels k level (subst (λ l. k < length l) same within)
    (subst (λ l. level ≡ get_or l k level) same is) in
    let each = subst (AreLevels long) from are in
    (each.0, each.1, subst (λ ls. count + blocks_behind at ls ≡ all) from counted)

pub behind_in_block-requires : goal.behind_in_block-requires
behind_in_block-requires g c = subst (λ l. c.args.place < length l) (sym c.as_slice.ensures.value) c.requires.within

pub loop-level-init : goal.loop-level-init
loop-level-init g c =
    let self = c.args.self.now in
    record {
      long = length self.taken.items;
      within = c.requires.within;
      are = c.requires.long;
      counted = ap (λ n. n + blocks_behind c.args.place (lists_in self.levels.items))
          (c.flags_set-count.ensures ∙ ap (count_by (λ flag. flag)) (c.behind_in_block.ensures
          ∙ ap (λ l. block_behind l c.args.place) c.as_slice.ensures.value));
    }

pub behind_in_block-requires-in-loop-level : goal.behind_in_block-requires-in-loop-level
behind_in_block-requires-in-loop-level g c =
    let inv = c.loop-level.invariant in
    let next = next_level c.args.self.now.levels.items _ _ c.level-item.result inv.long c.loop-level.at
    c.loop-level.count _ c.as_slice-level-items.ensures.value c.loop-level-test.true c.level-item.is inv.are inv.counted in
    let long = next.0 in
    let items = ap length c.as_slice-in-loop-level.ensures.value in
    let within = inv.within in omega (arith, long, items, within)

pub sum_of-count-requires : goal.sum_of-count-requires
sum_of-count-requires g c =
    let inv = c.loop-level.invariant in
    let next = next_level c.args.self.now.levels.items _ _ c.level-item.result inv.long c.loop-level.at
    c.loop-level.count _ c.as_slice-level-items.ensures.value c.loop-level-test.true c.level-item.is inv.are inv.counted in
    let all = next.2 in
    let here = ap sum (c.behind_in_block-in-loop-level.ensures
    ∙ ap (λ l. block_behind l (c.loop-level.at / 64)) c.as_slice-in-loop-level.ensures.value) in
    let few = c.requires.few in omega (arith, all, here, few)

pub overflow_add-count : goal.overflow_add-count
overflow_add-count g c =
    let inv = c.loop-level.invariant in
    let next = next_level c.args.self.now.levels.items _ _ c.level-item.result inv.long c.loop-level.at
    c.loop-level.count _ c.as_slice-level-items.ensures.value c.loop-level-test.true c.level-item.is inv.are inv.counted in
    let all = next.2 in
    let here = c.sum_of-count.ensures ∙ ap sum (c.behind_in_block-in-loop-level.ensures
    ∙ ap (λ l. block_behind l (c.loop-level.at / 64)) c.as_slice-in-loop-level.ensures.value) in
    let few = c.requires.few in omega (arith, all, here, few)

pub loop-level-preserved : goal.loop-level-preserved
loop-level-preserved g c =
    let inv = c.loop-level.invariant in
    let next = next_level c.args.self.now.levels.items _ _ c.level-item.result inv.long c.loop-level.at
    c.loop-level.count _ c.as_slice-level-items.ensures.value c.loop-level-test.true c.level-item.is inv.are inv.counted in
    let long = next.0 in
    let all = next.2 in
    let here = c.sum_of-count.ensures ∙ ap sum (c.behind_in_block-in-loop-level.ensures
    ∙ ap (λ l. block_behind l (c.loop-level.at / 64)) c.as_slice-in-loop-level.ensures.value) in
    let within = inv.within in
    record {
      long = length c.level-item.result.items;
      within = omega (arith, long, within);
      are = next.1;
      counted = omega (arith, all, here);
    }

pub returns : goal.returns
returns g c =
    let inv = c.loop-level.invariant in
    let levels = c.args.self.now.levels.items in
    let k = c.loop-level.level-index in
    let items = ap length c.as_slice-level-items.ensures.value in
    let end = c.loop-level-test.false in
    let none = at_drop_all (λ ls. blocks_behind c.loop-level.at (lists_in ls)) levels k (omega (arith, items, end)) in
    let counted = inv.counted in omega (arith, none, counted)
