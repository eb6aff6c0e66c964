-- The last of several events is found by a lemma on lists.
use Rattle.listing.proofs.LastOf.{last_of_is}
use Rattle.listing.proofs.rows.last_of.Goals as goal

pub returns-in-len1-up : goal.returns-in-len1-up
returns-in-len1-up c =
    last_of_is c.args.added.now c.place.result _ c.place.ensures c.in-len1-up.len_at_least
