-- The harts of the spans so far are counted.
use Rattle.std.proofs.Common.{None}
use Rattle.frames.proofs.KnownHarts.{HasCounted}
use Rattle.frames.specs.Start.{spans_of}
use Rattle.frames.proofs.counting.harts_found.Given as goal

abbrev pub invariant-loop-span : goal.invariant-loop-span
invariant-loop-span l = HasCounted 1024 (spans_of None l.capture) l.span-iterator l.harts
