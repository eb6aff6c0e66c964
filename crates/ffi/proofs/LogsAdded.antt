-- The messages of logs are added one hart after the other.
use Rattle.std.proofs.Common.{◌≡◌, ℕ, suc, ◌+◌, List, [], ◌∷◌, ◌++◌, length, ap, sym, ◌∙◌}
use Rattle.std.proofs.Common.{append_assoc, append-nil, arith}
use Rattle.captures.proofs.Passes.{joined}
use Rattle.captures.specs.Messages.{messages_of_harts}
use Rattle.encoder.specs.Payloads.{payloads}
use Rattle.legalpath.specs.ProgramLog.{ProgramLog}
use Rattle.message.specs.Capture.{capture}
use Rattle.message.specs.Numbered.{messages_from}
use Rattle.payload.specs.declared.mode.Mode.{Mode}
use Rattle.ffi.specs.steps.Encoding.{AddsLog, AddsLogs}

-- The messages of one hart more come after those of the harts before.
harts_more : (period : ℕ) (mode : Mode) (hart : ℕ) (logs : List ProgramLog) (log : ProgramLog)
    → messages_of_harts period mode hart (logs ++ log ∷ [])
    ≡ messages_of_harts period mode hart logs ++ messages_from (hart + length logs) 0 (payloads period mode log)
harts_more period mode hart [] log =
    let here : hart ≡ hart + 0 = omega arith in
    append-nil (messages_from hart 0 (payloads period mode log))
    ∙ ap (λ h. messages_from h 0 (payloads period mode log)) here
harts_more period mode hart (first ∷ logs) log =
    let own = messages_from hart 0 (payloads period mode first) in
    let there : hart + 1 + length logs ≡ hart + suc (length logs) = omega arith in
    ap (λ rest. own ++ rest) (harts_more period mode (hart + 1) logs log)
    ∙ sym (append_assoc own (messages_of_harts period mode (hart + 1) logs)
    (messages_from (hart + 1 + length logs) 0 (payloads period mode log)))
    ∙ ap (λ h. messages_of_harts period mode hart (first ∷ logs) ++ messages_from h 0 (payloads period mode log)) there

-- The bytes of one hart more come after those of the harts before.
pub added_more : (period : ℕ) (mode : Mode) (place : ℕ) (old now new : List ℕ) (logs : List ProgramLog)
    (log : ProgramLog) → length logs ≡ place → AddsLogs period mode old now logs → AddsLog place period mode now new log
    → AddsLogs period mode old new (logs ++ log ∷ [])
added_more period mode place old now new logs log many before is =
    let messages = messages_of_harts period mode 0 logs in
    let own = payloads period mode log in
    let at : place ≡ 0 + length logs = omega (arith, many) in
    is
    ∙ ap (λ l. l ++ capture (messages_from place 0 own)) before
    ∙ append_assoc old (capture messages) (capture (messages_from place 0 own))
    ∙ ap (λ h. old ++ (capture messages ++ capture (messages_from h 0 own))) at
    ∙ ap (λ l. old ++ l) (sym (joined messages (messages_from (0 + length logs) 0 own)))
    ∙ ap (λ l. old ++ capture l) (sym (harts_more period mode 0 logs log))
