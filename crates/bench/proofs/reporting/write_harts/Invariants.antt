-- The lines of the harts so far are written.
use Rattle.std.proofs.Common.{◌≡◌, map, take}
use Rattle.std.specs.Io.KnownBytes.{Appends}
use Rattle.bench.specs.Got.{got_of}
use Rattle.bench.specs.Report.{are_whole, report_lines}
use Rattle.bench.proofs.reporting.write_harts.Given as goal

abbrev pub invariant-loop-hart : goal.invariant-loop-hart
invariant-loop-hart g l = record {
  whole : l.whole ≡ are_whole (take l.hart (map got_of l.harts)) (take l.hart l.logs);
  text : Appends (g.W.Write.contents l.initial.sink) (g.W.Write.contents l.sink)
      (report_lines 0 (take l.hart (map got_of l.harts)) (take l.hart l.logs));
}
