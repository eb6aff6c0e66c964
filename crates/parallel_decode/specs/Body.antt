-- Where the decoding of a capture stops, by where that of its messages does.
use Rattle.std.specs.Prelude.{ℕ, Option, None, Some}
use Rattle.message.specs.declared.fault.MessageFault.{MessageFault}
use Rattle.captures.specs.declared.outcome.CaptureFault.{CaptureFault}
use Rattle.captures.specs.declared.outcome.CaptureFault.TheVariants as fault

-- At a header that is cut short or bad, and else where that of the messages stops.
abbrev pub end_of : Option MessageFault → Option (ℕ × CaptureFault) → Option (ℕ × CaptureFault)
end_of None stop = stop
end_of (Some why) stop = Some (0, fault.Message why)
