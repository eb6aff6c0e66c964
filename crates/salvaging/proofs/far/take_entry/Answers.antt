-- How many places after this one are taken is found by lemmas on blocks.
use Rattle.std.proofs.Common.{◌≡◌, ◌<◌, ◌++◌, ◌==◌, All, [], ◌∷◌, ap, arith, length, subst, sym, true, ◌∙◌}
use Rattle.std.specs.Prelude.{count_by}
use Rattle.std.proofs.lemmas.List.{length-set}
use Rattle.std.proofs.lemmas.List.Elements.{All-head}
use Rattle.salvaging.specs.steps.Ahead.{HasTaken, behind_entry, lists_in, places_of}
use Rattle.salvaging.specs.steps.Grouping.{entry_of}
use Rattle.salvaging.proofs.AheadSteps.{took_used}
use Rattle.salvaging.proofs.BlockCounts.{all_behind, can_add, few_behind}
use Rattle.salvaging.proofs.far.take_entry.Goals as goal

pub count_behind-count-requires-clause-few : goal.count_behind-count-requires-clause-few
count_behind-count-requires-clause-few g c =
    let old = c.args.places.now in
    let same = all_behind old.taken.items (lists_in old.levels.items) c.requires.0 c.requires.1 c.in-Used.place in
    let most = few_behind c.in-Used.place c.requires.0 in
    let few = c.requires.3 in
    omega (arith, same, most, few)

pub add-requires-clause-few : goal.add-requires-clause-few
add-requires-clause-few g c =
    let old = c.args.places.now in
    can_add old.taken.items (lists_in old.levels.items) c.requires.0 c.requires.1 c.requires.3 c.in-Used.place

pub returns-in-Used : goal.returns-in-Used
returns-in-Used g c =
    let old = c.args.places.now in
    let place = c.in-Used.place in
    let here = All-head (λ p. (p < length old.taken.items) × (count_by (λ one. one == p) c.requires.0 ≡ 0)) place []
    (subst (λ e. All (λ p. (p < length old.taken.items) × (count_by (λ one. one == p) c.requires.0 ≡ 0))
    (places_of (entry_of e ∷ []))) c.in-Used.is c.requires.2) in (
      ap length c.add.ensures.taken ∙ length-set old.taken.items place true,
      λ places has.
          subst (λ e. (c.count_behind-count.result ≡ behind_entry (entry_of e) places)
          × HasTaken c.add.new.self (places ++ places_of (entry_of e ∷ []))) (sym c.in-Used.is)
          (took_used old c.add.new.self place c.requires.0 c.requires.1 here.0 here.1 c.add.ensures.taken
          c.add.ensures.levels c.count_behind-count.result c.count_behind-count.ensures places has),
    )
