-- The last of several events is found by a lemma on lists.
use Rattle.listing.proofs.AddedPlaces.{several_events}
use Rattle.listing.proofs.places.ends.Goals as goal

pub returns-in-len2-up : goal.returns-in-len2-up
returns-in-len2-up c = λ symbols.
    several_events symbols c.args.added.now c.place-in-len2-up.result c.place-in-len2-up-2.result _ _
    c.place-in-len2-up.ensures c.place-in-len2-up-2.ensures c.in-len2-up.len_at_least
