-- What is given back where a payload is not sent.
use Rattle.std.specs.Prelude.{ℕ, List}
use Rattle.funnel.specs.declared.fault.SendFault.{SendFault}
use Rattle.funnel.specs.declared.fault.SendFault.TheVariants as fault

-- The payload that was not sent.
abbrev pub unsent_payload : SendFault → List ℕ
unsent_payload (fault.Closed payload) = payload
unsent_payload (fault.HandedBack payload) = payload
