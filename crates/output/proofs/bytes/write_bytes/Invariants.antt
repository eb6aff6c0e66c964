use Rattle.std.proofs.Common.{◌≤◌, take, length}
use Rattle.std.specs.Io.KnownBytes.{Appends}
use Rattle.output.proofs.bytes.write_bytes.Given as goal

-- What was written so far is the first bytes.
abbrev pub invariant-loop : goal.invariant-loop
invariant-loop g l = record {
  within : l.written ≤ length l.bytes;
  appended : Appends (g.W.Write.contents l.fn.out) (g.W.Write.contents l.out) (take l.written l.bytes);
}
