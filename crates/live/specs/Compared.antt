-- What is found of messages, as payloads are compared.
use Rattle.std.specs.Prelude.{ℕ, Bool, List, Option, None}
use Rattle.payload.specs.declared.by.By.{By}
use Rattle.message.specs.declared.message.Message.{Message}
use Rattle.auditing.specs.Fates.{is_true, true_ones}
use Rattle.auditing.specs.Findings.{finding_of}
use Rattle.auditing.specs.Known.{known_all, known_one}
use Rattle.auditing.specs.SentPayload.{payload_sent}
use Rattle.auditing.specs.declared.finding.Finding.{Finding}
use Rattle.auditing.specs.declared.finding.Finding.TheVariants as finding

-- A message is true.
abbrev pub known_true : By → List Message → Message → Bool
known_true how sent message = is_true (known_all how sent) (known_one how message)

-- The true ones of messages, each with what its payload is known by.
abbrev pub known_trues : By → List Message → List Message → List Message
known_trues how sent came = true_ones (known_all how sent) (known_all how came)

-- What is found of a message, by SENT and the messages before it.
abbrev pub known_finding : By → List Message → List Message → Message → Finding
known_finding how sent before message =
    finding_of (known_all how sent) (known_all how before) (known_one how message)

-- The payload that SENT has with the hart and the number of a message, if that is changed.
abbrev pub changed_from : List Message → Message → Finding → Option (List ℕ)
changed_from sent message finding.Changed = payload_sent sent message.hart message.number
changed_from sent message other = None
