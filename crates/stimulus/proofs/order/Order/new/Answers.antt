-- The order before its first turn, as it is defined.
use Rattle.std.proofs.Common.{◌≡◌, subst}
use Rattle.stimulus.specs.Order.{weighed}
use Rattle.stimulus.proofs.OrderLemmas.{first_is}
use Rattle.stimulus.proofs.order.Order.new.Goals as goal

pub returns : goal.returns
returns g c =
    first_is c.args.seed c.args.harts _ _ _ c.in_ok-listed.listed.items c.weighed.new.random
    (subst (λ random. (c.in_ok-listed.listed.items, c.weighed.new.random) ≡ weighed random c.args.harts)
    c.new-random.ensures c.in_ok-listed.ensures)
