-- The payloads of the messages so far are kept.
use Rattle.std.proofs.Common.{take}
use Rattle.auditing.specs.PayloadSights.{KeepsPayloads}
use Rattle.ffi.proofs.aligned_reading.known_payloads.Given as goal

abbrev pub invariant-loop-message : goal.invariant-loop-message
invariant-loop-message l = KeepsPayloads l.fn.framed l.fn.by (take l.message-index l.sent) l.known
