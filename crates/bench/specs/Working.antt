-- What the worker of a hart sends.
use Rattle.std.specs.Prelude.{ℕ, ◌≡◌, ◌<◌, Bool, true, List, length, take}
use Rattle.legalpath.specs.ProgramLog.{ProgramLog}
use Rattle.payload.specs.declared.mode.Mode.{Mode}
use Rattle.encoder.specs.Payloads.{payloads}
use Rattle.message.specs.declared.message.Message.{Message}
use Rattle.funnel.specs.Ends.{PortView}
use Rattle.funnel.specs.Payloads.{payloads_in}

-- The messages carry the first payloads of a log at a period and in a mode, in order.
abbrev pub CarryFirst : ℕ → Mode → ProgramLog → List Message → Type 0
CarryFirst period mode log messages = payloads_in messages ≡ take (length messages) (payloads period mode log)

-- The messages are fewer than the payloads of a log at a period and in a mode.
abbrev pub AreNotAll : ℕ → Mode → ProgramLog → List Message → Type 0
AreNotAll period mode log messages = length messages < length (payloads period mode log)

-- A worker leaves the receipt of its port. What was sent through it carries the first payloads of the worker's log, and
-- not all of them where a payload was handed back.
abbrev pub IsWork : ℕ → Mode → PortView → ProgramLog → PortView → Bool → Type 0
IsWork period mode port log receipt handed_back =
    (receipt.funnel ≡ port.funnel) × (receipt.hart ≡ port.hart) × CarryFirst period mode log receipt.sent
    × (handed_back ≡ true → AreNotAll period mode log receipt.sent)
