-- What was found, or why nothing was, is reported: by the constructor for each.
use Rattle.std.proofs.Common.{ℕ, ap, refl, subst}
use Rattle.ffi.specs.Compared.{Handed, Refused}
use Rattle.ffi.specs.Handed.{IsHandedOut}
use Rattle.ffi.specs.declared.encoding.LogPlace.{LogPlace}
use Rattle.ffi.proofs.comparing_logs.report_compared.Goals as goal

-- The place that is reported.
abbrev reported : ℕ → ℕ → LogPlace
reported log row = record { log = log; row = row }

pub returns-in-Ok : goal.returns-in-Ok
returns-in-Ok c =
    Handed c.in-Ok.found c.in-Ok.is
    (subst (λ bytes. IsHandedOut bytes c.hand_out.result c.hand_out.new.wanted c.args.buffer.now c.hand_out.new.buffer)
    c.as_slice.ensures.value c.hand_out.ensures) refl refl

pub returns-in-Err : goal.returns-in-Err
returns-in-Err c =
    Refused c.in-Err.log c.in-Err.fault c.in-Err.is c.status.ensures
    (ap (λ row. reported c.in-Err.log row) c.row.ensures) refl refl refl
