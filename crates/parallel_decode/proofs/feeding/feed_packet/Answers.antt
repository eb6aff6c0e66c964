-- The walks are those of the program.
use Rattle.parallel_decode.proofs.feeding.feed_packet.Goals as goal

pub returns-clause-adds : goal.returns-clause-adds
returns-clause-adds g c = rw c.of.ensures at c.feed_in_pieces.ensures.adds

pub returns-clause-only : goal.returns-clause-only
returns-clause-only g c = rw c.of.ensures at c.feed_in_pieces.ensures.only

pub returns-clause-adds_none : goal.returns-clause-adds_none
returns-clause-adds_none g c = rw c.of.ensures at c.feed_in_pieces.ensures.adds_none

pub returns-clause-adds_closed : goal.returns-clause-adds_closed
returns-clause-adds_closed g c = rw c.of.ensures at c.feed_in_pieces.ensures.adds_closed

pub returns-clause-adds_first : goal.returns-clause-adds_first
returns-clause-adds_first g c = rw c.of.ensures at c.feed_in_pieces.ensures.adds_first
