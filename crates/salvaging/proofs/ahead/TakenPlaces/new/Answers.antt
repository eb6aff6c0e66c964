-- That none is taken is said of each place, which no search does.
use Rattle.std.proofs.Common.{◌≡◌, All, false, length, refl, ap, subst, sym, ◌∙◌}
use Rattle.std.proofs.lemmas.List.{length-replicate}
use Rattle.std.proofs.lemmas.List.Elements.{All-replicate}
use Rattle.salvaging.specs.steps.Ahead.{AreLevels, lists_in}
use Rattle.salvaging.proofs.BlockCounts.{none_taken}
use Rattle.salvaging.proofs.ahead.TakenPlaces.new.Goals as goal

pub returns-clause-none : goal.returns-clause-none
returns-clause-none g c =
    let clear = c.in_ok-taken.ensures.items_if_clones_equal (λ y same. same) in
    let long = ap length clear ∙ length-replicate c.args.count false in
    none_taken c.in_ok-taken.taken.items (lists_in c.in_ok-levels.levels.items)
    (subst (All (λ flag. flag ≡ false)) (sym clear) (All-replicate (λ flag. flag ≡ false) c.args.count false refl))
    (subst (λ n. AreLevels n (lists_in c.in_ok-levels.levels.items)) (sym long) c.in_ok-levels.ensures.long)
    c.in_ok-levels.ensures.clear
