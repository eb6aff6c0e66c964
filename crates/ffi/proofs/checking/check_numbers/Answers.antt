-- How the check ends: by the constructor for each.
use Rattle.std.proofs.Common.{refl, arith}
use Rattle.ffi.specs.EventsChecked.{Checked, NoProgram, TooMany}
use Rattle.ffi.proofs.checking.check_numbers.Goals as goal

pub returns-in-Err : goal.returns-in-Err
returns-in-Err c = NoProgram c.in-Err.why c.in-Err.is refl

pub returns-then-events : goal.returns-then-events
returns-then-events c = let many = c.if-events.true in TooMany c.in-Ok.program c.in-Ok.is (omega (arith, many)) refl

pub returns : goal.returns
returns c =
    let few = c.if-events.false in Checked c.in-Ok.program c.in-Ok.is (omega (arith, few)) c.check_all.ensures
