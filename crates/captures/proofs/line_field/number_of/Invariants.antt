-- The bytes so far are digits, whose number is below 2^64.
use Rattle.std.proofs.Common.{◌<◌, ◌^◌}
use Rattle.captures.proofs.Numbers.{AreRead}
use Rattle.captures.proofs.line_field.number_of.Given as goal

abbrev pub invariant-loop-byte : goal.invariant-loop-byte
invariant-loop-byte l = AreRead l.digits l.byte-index l.value × (l.value < 2 ^ 64)
