-- The search does not turn a test of the three highest bits into one of the whole number.
use Rattle.payload.proofs.WideNumbers.{clear_above_141, not_clear_above_141}
use Rattle.payload.proofs.bits.Bits.has_width_of_exception.Goals as goal

pub returns-then-top-eq0 : goal.returns-then-top-eq0
returns-then-top-eq0 c =
    clear_above_141 c.self.inside.low c.self.inside.high _ c.self.invariant.0 c.self.view_is c.if-top-eq0.true

pub returns-else-top-eq0 : goal.returns-else-top-eq0
returns-else-top-eq0 c =
    not_clear_above_141 c.self.inside.low c.self.inside.high _ c.self.invariant.0 c.self.invariant.1 c.self.view_is
    c.if-top-eq0.false
