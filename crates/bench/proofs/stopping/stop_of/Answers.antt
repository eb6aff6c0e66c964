-- Each stop is what was found: said here, since a search goes through all that is known of all harts.
use Rattle.bench.proofs.stopping.stop_of.Goals as goal

pub returns-in-Some : goal.returns-in-Some
returns-in-Some g c = c.in-Some.ensures.some

pub returns-in-Some-first : goal.returns-in-Some-first
returns-in-Some-first g c = (c.in-Some-first.ensures.some, c.in_default.ensures.none)

pub returns-in-Some-first-2 : goal.returns-in-Some-first-2
returns-in-Some-first-2 g c =
    (c.in-Some-first-2.ensures.some, c.in_default-first.ensures.none, c.in_default.ensures.none)

pub returns-in-None : goal.returns-in-None
returns-in-None g c = c.in-None.ensures.none
