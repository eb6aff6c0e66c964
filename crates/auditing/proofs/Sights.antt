-- What is known of a message, by what is kept.
use Rattle.std.proofs.Common.{◌≡◌, List, Option, Some, None, slice_get, refl, ap}
use Rattle.message.specs.declared.message.Message.{Message}
use Rattle.auditing.proofs.PayloadLemmas.{payload_kept, payload_none}
use Rattle.auditing.proofs.Taken.{beyond_end}
use Rattle.auditing.specs.Audits.{Audits}
use Rattle.auditing.specs.Ledger.{HartLedger, Ledger}
use Rattle.auditing.specs.Seen.{sight_by, sight_of}
use Rattle.auditing.specs.steps.Seeing.{sight_found, sight_in}

-- It is what SENT has.
pub sight_kept : (sent received : List Message) (ledger : Ledger) (message : Message) → Audits sent received ledger
    → sight_in ledger message ≡ sight_of ledger.by sent message
sight_kept sent received ledger message audits = go (slice_get ledger.harts message.hart) refl
  where
    go : (o : Option HartLedger) → slice_get ledger.harts message.hart ≡ o
        → sight_found ledger.by o message ≡ sight_of ledger.by sent message
    go None is =
        ap (λ payload. sight_by ledger.by payload message.payload)
        (payload_none sent message.hart message.number
        (audits.others message.hart (beyond_end ledger.harts message.hart is)))
    go (Some own) is =
        ap (λ payload. sight_by ledger.by payload message.payload)
        (payload_kept sent message.hart message.number own.payloads (audits.payloads message.hart own is))
