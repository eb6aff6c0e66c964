use Rattle.std.proofs.Common.{take}
use Rattle.std.specs.Io.KnownBytes.{Appends}
use Rattle.log_commands.specs.steps.Made.{joined}
use Rattle.log_commands.proofs.encoding.write_joined.Given as goal

-- The bytes so far are written.
abbrev pub invariant-loop-bytes : goal.invariant-loop-bytes
invariant-loop-bytes g l =
    Appends (g.O.Write.contents l.fn.out) (g.O.Write.contents l.out) (joined (take l.bytes-index l.messages))
