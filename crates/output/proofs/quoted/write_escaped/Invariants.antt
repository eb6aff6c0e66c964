-- The bytes so far are written.
use Rattle.std.proofs.Common.{drop}
use Rattle.std.specs.List.{flat_map}
use Rattle.output.proofs.FieldParts.{HasWritten}
use Rattle.output.specs.steps.Quoting.{escaped_byte}
use Rattle.output.proofs.quoted.write_escaped.Given as goal

abbrev pub invariant-loop-byte : goal.invariant-loop-byte
invariant-loop-byte g l =
    HasWritten (flat_map escaped_byte l.field) (flat_map escaped_byte (drop l.byte-index l.field))
    (g.W.Write.contents l.fn.out) (g.W.Write.contents l.out)
