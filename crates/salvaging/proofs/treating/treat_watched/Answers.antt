-- What is done with all is put together by lemmas.
use Rattle.std.proofs.Common.{◌≡◌, Some, length, slice_get, ap, subst, ◌∙◌}
use Rattle.rvclass.specs.Fetch.{words_of}
use Rattle.salvaging.proofs.DistributedAll.{distributed_placed, distributed_small}
use Rattle.salvaging.proofs.TreatedAll.{all_sorted}
use Rattle.salvaging.proofs.treating.treat_watched.Goals as goal

pub sort_each-requires-clause-numbers : goal.sort_each-requires-clause-numbers
sort_each-requires-clause-numbers g c =
    distributed_small c.args.messages.now c.in_ok-lists.lists.items c.in_ok-lists.ensures.each

pub sort_each-requires-clause-places : goal.sort_each-requires-clause-places
sort_each-requires-clause-places g c =
    distributed_placed c.args.messages.now c.in_ok-lists.lists.items c.in_ok-lists.ensures.each

pub treat_each-requires : goal.treat_each-requires
treat_each-requires g c =
    ap length c.as_slice.ensures.value ∙ c.in_ok-sorted.ensures.count ∙ c.in_ok-lists.ensures.count

pub returns : goal.returns
returns g c =
    let words = words_of c.args.program.now in
    c.in_ok-treated.ensures words c.args.mode
    (λ hart own at. all_sorted words c.args.mode c.args.messages.now c.in_ok-lists.lists.items c.in_ok-sorted.sorted.items
    c.in_ok-lists.ensures.each c.in_ok-sorted.ensures hart own
    (subst (λ l. slice_get l hart ≡ Some own) c.as_slice.ensures.value at))
