-- That a level more is one, and that none follows the last one, are lemmas on lists.
use Rattle.std.proofs.Common.{◌≡◌, ◌≤◌, ◌/◌, ◌+◌, ◌++◌, ℕ, All, [], ◌∷◌, length, arith, refl, ap, subst, sym, ◌∙◌}
use Rattle.std.proofs.lemmas.List.{append-nil, append_assoc, length-replicate, map-append}
use Rattle.std.proofs.lemmas.List.Elements.{All-push, All-replicate}
use Rattle.std.specs.declared.vec.Vec.{Vec}
use Rattle.salvaging.specs.steps.Ahead.{AreLevels, lists_in}
use Rattle.salvaging.proofs.ahead.clear_levels.Goals as goal

pub loop-long-preserved : goal.loop-long-preserved
loop-long-preserved g c =
    let long = c.loop-long.long / 64 + 1 in
    let before = lists_in c.loop-long.levels.items in
    let level = c.in_ok-level.level.items in
    let zeros = c.in_ok-level.ensures.items_if_clones_equal (λ y same. same) in
    let count : length level ≡ long = ap length zeros ∙ length-replicate long 0 in
    let clear = subst (All (λ n. n ≡ 0)) (sym zeros) (All-replicate (λ n. n ≡ 0) long 0 refl) in
    let pushed : lists_in c.push_reserved.new.self.items ≡ before ++ level ∷ [] =
    ap lists_in (c.push_reserved.ensures.items
    ∙ ap (λ l. l ++ c.in_ok-level.level ∷ []) c.in_ok-reserve.ensures.items)
    ∙ map-append (λ (one : Vec ℕ _). one.items) c.loop-long.levels.items (c.in_ok-level.level ∷ []) in
    record {
      more = λ rest below. subst (λ ls. AreLevels c.args.count (ls ++ rest)) (sym pushed)
          (subst (AreLevels c.args.count) (sym (append_assoc before (level ∷ []) rest))
          (c.loop-long.invariant.more (level ∷ rest) (count, subst (λ n. AreLevels n rest) (sym count) below)));
      clear = subst (All (λ one. All (λ n. n ≡ 0) one)) (sym pushed)
          (All-push (λ one. All (λ n. n ≡ 0) one) before level c.loop-long.invariant.clear clear);
    }

pub returns-clause-long : goal.returns-clause-long
returns-clause-long g c =
    let over = c.loop-long-test.false in
    let few : c.loop-long.long ≤ 64 = omega (arith, over) in
    subst (AreLevels c.args.count) (append-nil (lists_in c.loop-long.levels.items)) (c.loop-long.invariant.more [] few)
