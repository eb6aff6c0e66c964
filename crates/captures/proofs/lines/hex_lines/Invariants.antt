use Rattle.std.proofs.Common.{take}
use Rattle.std.specs.Io.KnownBytes.{Appends}
use Rattle.message.specs.Numbered.{messages_from}
use Rattle.captures.specs.HexLines.{hex_text}
use Rattle.captures.proofs.lines.hex_lines.Given as goal

-- The lines below this number are written.
abbrev pub invariant-loop-number : goal.invariant-loop-number
invariant-loop-number g l =
    Appends (g.W.Write.contents l.fn.sink) (g.W.Write.contents l.sink)
    (hex_text (messages_from l.hart 0 (take l.number l.payloads)))
