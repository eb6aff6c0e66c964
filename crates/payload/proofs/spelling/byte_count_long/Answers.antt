-- The search does not relate leading zeros to the first count that fits.
use Rattle.payload.proofs.LongNumbers.{counted_long}
use Rattle.payload.proofs.spelling.byte_count_long.Goals as goal

pub returns-else-rest-eq0-clause-value : goal.returns-else-rest-eq0-clause-value
returns-else-rest-eq0-clause-value c =
    counted_long c.args.head c.args.rest c.requires.head c.requires.rest c.if-rest-eq0.false
