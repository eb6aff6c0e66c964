-- The last event is found by a lemma on lists.
use Rattle.std.proofs.Common.{rules, ◌≤◌, length}
use Rattle.salvaging.proofs.AddedOf.{added_is}
use Rattle.salvaging.proofs.trail.added_of.Goals as goal

pub returns : goal.returns
returns c =
    let some : 1 ≤ length c.args.events.now = search rules in
    added_is c.args.events.now _ _ c.place.result c.place-2.result some c.place.ensures c.place-2.ensures
