-- The search does not turn tests of the two parts into one of the whole number.
use Rattle.payload.proofs.WideNumbers.{clear_above, set_above, mixed_above}
use Rattle.payload.proofs.bits.Bits.has_width.Goals as goal

pub returns-then-self-eq0 : goal.returns-then-self-eq0
returns-then-self-eq0 c =
    clear_above c.args.width c.self.inside.low c.self.inside.high _ c.requires.some c.requires.inside c.self.invariant.0
    c.self.view_is c.if-self-eq0.true

pub returns-then-self : goal.returns-then-self
returns-then-self c =
    set_above c.args.width c.self.inside.low c.self.inside.high _ c.requires.some c.requires.inside c.self.invariant.0
    c.self.view_is c.if-self.true

pub returns-else-self : goal.returns-else-self
returns-else-self c =
    mixed_above c.args.width c.self.inside.low c.self.inside.high _ c.requires.some c.requires.inside c.self.invariant.0
    c.self.invariant.1 c.self.view_is c.if-self-eq0.false c.if-self.false
