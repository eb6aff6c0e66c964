use Rattle.std.proofs.Common.{take}
use Rattle.std.specs.Io.KnownBytes.{Appends}
use Rattle.std.specs.List.{flat_map}
use Rattle.message.specs.Numbered.{messages_from}
use Rattle.encoder.specs.Payloads.{payloads}
use Rattle.encoder.specs.SourceAt.{IsAt}
use Rattle.captures.proofs.encoding.encode_hart.Given as goal

-- The messages below this number are written, and the source stands before the next one's payload.
abbrev pub invariant-loop-number : goal.invariant-loop-number
invariant-loop-number g l =
    IsAt l.period l.fn.mode l.log l.number l.source
    × Appends (g.W.Write.contents l.fn.sink) (g.W.Write.contents l.sink)
    (flat_map g.F.Form.text (messages_from l.hart 0 (take l.number (payloads l.period l.fn.mode l.log))))
