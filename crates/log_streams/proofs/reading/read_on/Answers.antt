-- The prover is handed the events that were read so far, and each clause at each end.
use Rattle.std.proofs.Common.{◌++◌, Ok, ap, inl, inr, refl}
use Rattle.std.proofs.KnownBytes.{Keeps-refl, Keeps-trans}
use Rattle.log_streams.proofs.ReadingLemmas.{none-more, read-further}
use Rattle.log_streams.proofs.reading.read_on.Goals as goal

pub loop-init : goal.loop-init
loop-init g c = (
  λ most seen read. none-more g.S.Source.given g.S.Source.left most seen c.args.reader.now read,
  Keeps-refl _,
)

pub loop-preserved : goal.loop-preserved
loop-preserved g c = (
  λ most seen read.
      let on = c.loop.invariant.0 most seen read in
      read-further g.S.Source.given g.S.Source.left most seen on.0 c.clear.new.self.items c.next.new.events.items
      c.next.new.self c.clear.ensures.items (c.in-Ok-true.ensures.goes_on most (seen ++ on.0) on.1),
  Keeps-trans _ _ _ c.loop.invariant.1 c.next.ensures.kept,
)

pub returns-in-Ok-false : goal.returns-in-Ok-false
returns-in-Ok-false g c = record {
  read = λ most seen read.
      let on = c.loop.invariant.0 most seen read in
      let end = c.in-Ok-false.ensures.end most (seen ++ on.0) on.1 (ap Ok c.in-Ok-false.field-0-test) in
      record { more = on.0; whole = record { ended = end.1; log = end.2 } };
  fault = λ most seen read. tt;
  kept = Keeps-trans _ _ _ c.loop.invariant.1 c.next.ensures.kept;
}

pub returns-in-Err : goal.returns-in-Err
returns-in-Err g c = record {
  read = λ most seen read. tt;
  fault = λ most seen read.
      let on = c.loop.invariant.0 most seen read in c.in-Err.ensures.faults most (seen ++ on.0) on.1;
  kept = Keeps-trans _ _ _ c.loop.invariant.1 c.next.ensures.kept;
}

pub returns : goal.returns
returns g c = record {
  read = λ most seen read. tt;
  fault = λ most seen read. inl (inr refl);
  kept = c.loop.invariant.1;
}
