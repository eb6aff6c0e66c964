use Rattle.std.specs.Io.KnownBytes.{Keeps}
use Rattle.retire.specs.HasRead.{HasRead, content_of}
use Rattle.retire.specs.Log.{most_rows}
use Rattle.retire.specs.ReaderSource.{given_by, left_by}
use Rattle.retire.proofs.read.read_from.Given as goal

-- The events so far were read, and the source still has the bytes that it had.
abbrev pub invariant-loop : goal.invariant-loop
invariant-loop g l = record {
  read : HasRead given_by (left_by g.R.Read.remaining) most_rows l.events.items l.reader;
  kept : Keeps (g.R.Read.remaining l.fn.source) (content_of given_by (left_by g.R.Read.remaining) l.reader);
}
