-- What a line's end means to the machine is a recursion over the bytes, which no search makes.
use Rattle.retire.proofs.PlaceLemmas.{plain-start}
use Rattle.retire.proofs.boundary.boundary.Goals as goal

pub returns-then-is_plain-clause-starts : goal.returns-then-is_plain-clause-starts
returns-then-is_plain-clause-starts c =
    plain-start c.args.text.now c.last_line_end.result c.is_plain.result c.is_plain.ensures c.if-is_plain.true
    c.last_line_end.ensures.within c.last_line_end.ensures.ends
