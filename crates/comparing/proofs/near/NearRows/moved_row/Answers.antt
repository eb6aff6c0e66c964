-- Either the row is one of the next, or it is one that is held: no tactic tells the cases of both facts apart.
use Rattle.std.proofs.Common.{arith}
use Rattle.comparing.proofs.near.NearRows.moved_row.Goals as goal

pub returns-then-many-more : goal.returns-then-many-more
returns-then-many-more c = record {
  here = λ few. c.event_at.ensures;
  one = λ is. absurd (omega (arith, is, c.if-many-more.true));
  two = λ is. absurd (omega (arith, is, c.if-many-more.true));
  three = λ is. absurd (omega (arith, is, c.if-many-more.true));
}

pub returns : goal.returns
returns c = record {
  here = λ few. absurd (omega (arith, few, c.if-many-more.false));
  one = λ is. c.held.ensures.one (omega (arith, is));
  two = λ is. c.held.ensures.two (omega (arith, is));
  three = λ is. c.held.ensures.three (omega (arith, is));
}
