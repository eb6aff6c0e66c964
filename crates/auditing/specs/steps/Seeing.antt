-- What is known of a message, by what is kept.
use Rattle.std.specs.Prelude.{Option, Some, None, slice_get}
use Rattle.payload.specs.declared.by.By.{By}
use Rattle.message.specs.declared.message.Message.{Message}
use Rattle.frames.specs.declared.sent.Sight.{Sight}
use Rattle.frames.specs.declared.sent.Sight.TheVariants as sight
use Rattle.auditing.specs.Ledger.{HartLedger, Ledger}
use Rattle.auditing.specs.Seen.{sight_by}

-- What is known of a message, by what is kept of its hart, if the hart is one of SENT's.
abbrev pub sight_found : By → Option HartLedger → Message → Sight
sight_found how None message = sight.Strange
sight_found how (Some own) message = sight_by how (slice_get own.payloads message.number) message.payload

-- What is known of a message, by what is kept.
abbrev pub sight_in : Ledger → Message → Sight
sight_in ledger message = sight_found ledger.by (slice_get ledger.harts message.hart) message
