-- What was made, or why there is nothing, is reported: by the constructor for each.
use Rattle.std.proofs.Common.{ℕ, ap, refl, subst}
use Rattle.ffi.specs.Encoded.{Made, Refused}
use Rattle.ffi.specs.Handed.{IsHandedOut}
use Rattle.ffi.specs.declared.encoding.LogPlace.{LogPlace}
use Rattle.ffi.proofs.encoding.report_made.Goals as goal

-- The place that is reported.
abbrev reported : ℕ → ℕ → LogPlace
reported log row = record { log = log; row = row }

pub returns-in-Ok : goal.returns-in-Ok
returns-in-Ok c =
    Made c.in-Ok.capture c.in-Ok.is
    (subst (λ bytes. IsHandedOut bytes c.hand_out.result c.hand_out.new.wanted c.args.buffer.now c.hand_out.new.buffer)
    c.as_slice.ensures.value c.hand_out.ensures) refl

pub returns-in-Err : goal.returns-in-Err
returns-in-Err c =
    Refused c.in-Err.log c.in-Err.fault c.in-Err.is c.status.ensures
    (ap (λ row. reported c.in-Err.log row) c.row.ensures) refl refl
