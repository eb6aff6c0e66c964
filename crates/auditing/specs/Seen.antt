-- What is known of a message by SENT.
use Rattle.std.specs.Prelude.{ℕ, if◌then◌else◌, List, Option, Some, None}
use Rattle.payload.specs.Same.{same}
use Rattle.payload.specs.declared.by.By.{By}
use Rattle.message.specs.declared.message.Message.{Message}
use Rattle.frames.specs.declared.sent.Sight.{Sight}
use Rattle.frames.specs.declared.sent.Sight.TheVariants as sight
use Rattle.auditing.specs.SentPayload.{payload_sent}

-- What is known of a message with this payload, by the payload that SENT has with its hart and its number, if it has one.
abbrev pub sight_by : By → Option (List ℕ) → List ℕ → Sight
sight_by how None payload = sight.Strange
sight_by how (Some sent) payload = if same how sent payload then sight.Same else sight.Numbered

-- What is known of a message by SENT: whether SENT has its hart and its number, and if so, whether its payload is the
-- one that was sent.
abbrev pub sight_of : By → List Message → Message → Sight
sight_of how sent message = sight_by how (payload_sent sent message.hart message.number) message.payload
