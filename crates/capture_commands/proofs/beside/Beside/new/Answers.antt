-- Nothing is compared yet, and all that is decoded is left.
use Rattle.std.proofs.Common.{arith, refl}
use Rattle.capture_commands.proofs.BesideLemmas.{none_compared}
use Rattle.capture_commands.proofs.beside.Beside.new.Goals as goal

pub returns : goal.returns
returns c = λ log is.
    none_compared log _ (c.new-events.ensures log is) c.new-comparing.ensures refl c.in_ok-piece.ensures.items
    (omega (arith, c.in_ok-piece.ensures.capacity))
