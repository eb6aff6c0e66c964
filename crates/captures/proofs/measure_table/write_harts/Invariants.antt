use Rattle.std.proofs.Common.{◌≡◌, ◌*◌, take}
use Rattle.std.specs.Io.KnownBytes.{Appends}
use Rattle.captures.specs.Bounds.{AreWithin, most_counted}
use Rattle.captures.specs.Measures.{total}
use Rattle.captures.specs.Table.{hart_rows}
use Rattle.captures.proofs.measure_table.write_harts.Given as goal

-- The rows of the harts so far are written, and their measures are summed up.
abbrev pub invariant-loop-hart : goal.invariant-loop-hart
invariant-loop-hart g l =
    let each = take l.hart (g.H.Harts.each l.harts) in record {
      all : l.all ≡ total each;
      few : AreWithin (l.hart * most_counted) l.all;
      text : Appends (g.W.Write.contents l.initial.sink) (g.W.Write.contents l.sink) (hart_rows 0 each);
    }
