-- A capture is handed out, or it is reported why there is none.
use Rattle.std.proofs.Common.{Ok, Err, refl, subst}
use Rattle.ffi.specs.Handed.{IsHandedOut}
use Rattle.ffi.specs.OfLines.{IsOfLines, Made, Refused}
use Rattle.ffi.proofs.lines.tracebench_capture_of_lines.Goals as goal

pub returns-in-Ok : goal.returns-in-Ok
returns-in-Ok c =
    Made c.in-Ok.capture
    (subst (λ settings. IsOfLines settings c.args.text.now (Ok c.in-Ok.capture)) c.settings_named-settings.ensures.value
    c.in-Ok.ensures)
    (subst (λ bytes. IsHandedOut bytes c.hand_out.result c.hand_out.new.wanted c.args.buffer.now c.hand_out.new.buffer)
    c.as_slice.ensures.value c.hand_out.ensures)
    refl

pub returns-in-Err : goal.returns-in-Err
returns-in-Err c =
    Refused c.in-Err.why
    (subst (λ settings. IsOfLines settings c.args.text.now (Err c.in-Err.why)) c.settings_named-settings.ensures.value
    c.in-Err.ensures)
    c.status.ensures c.row.ensures refl refl
