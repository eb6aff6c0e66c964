use Rattle.std.proofs.Common.{take}
use Rattle.std.specs.Io.KnownBytes.{Appends}
use Rattle.std.specs.List.{flat_map}
use Rattle.captures.specs.Messages.{messages_of_harts}
use Rattle.captures.proofs.encoding.encode.Given as goal

abbrev pub invariant-loop-hart : goal.invariant-loop-hart
invariant-loop-hart g l =
    Appends (g.W.Write.contents l.fn.sink) (g.W.Write.contents l.sink)
    (flat_map g.F.Form.text (messages_of_harts l.period l.mode 0 (take l.hart l.logs)))
