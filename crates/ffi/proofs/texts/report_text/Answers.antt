-- What was written, or why nothing was, is reported: by the constructor for each.
use Rattle.std.proofs.Common.{refl, subst}
use Rattle.ffi.specs.Handed.{IsHandedOut}
use Rattle.ffi.specs.Texts.{Handed, Refused}
use Rattle.ffi.proofs.texts.report_text.Goals as goal

pub returns-in-Ok : goal.returns-in-Ok
returns-in-Ok c =
    Handed c.in-Ok.found c.in-Ok.is
    (subst (λ bytes. IsHandedOut bytes c.hand_out.result c.hand_out.new.wanted c.args.buffer.now c.hand_out.new.buffer)
    c.as_slice.ensures.value c.hand_out.ensures) refl

pub returns-in-Err : goal.returns-in-Err
returns-in-Err c = Refused c.in-Err.fault c.in-Err.is c.status.ensures refl refl refl
