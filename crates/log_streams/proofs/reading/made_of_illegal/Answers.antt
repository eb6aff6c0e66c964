-- The prover is handed the events of the log that is read to its end.
use Rattle.std.proofs.Common.{◌++◌, inr}
use Rattle.rvclass.specs.Fetch.{words_of}
use Rattle.log_streams.proofs.IllegalLemmas.{illegal-fault, illegal-further}
use Rattle.log_streams.proofs.reading.made_of_illegal.Goals as goal

pub returns-in-Err : goal.returns-in-Err
returns-in-Err g c = record {
  made = λ most hart seen read is. c.in-Err.ensures.fault most seen read;
  refused = tt;
  kept = c.read_on.ensures.kept;
}

pub returns-in-Ok : goal.returns-in-Ok
returns-in-Ok g c = record {
  made = λ most hart seen read is.
      let on = c.in_default.ensures.read most seen read in
      let all = illegal-further (words_of c.args.program.now) seen on.more c.args.row is in
      (seen ++ on.more, on.whole, inr (c.args.row, all, c.in-Ok.ensures.made (seen ++ on.more) all));
  refused = tt;
  kept = c.read_on.ensures.kept;
}

pub returns-in-Err-refuse : goal.returns-in-Err-refuse
returns-in-Err-refuse g c = record {
  made = λ most hart seen read is.
      let on = c.in_default.ensures.read most seen read in
      let all = illegal-further (words_of c.args.program.now) seen on.more c.args.row is in
      let fault = illegal-fault (words_of c.args.program.now) (seen ++ on.more) c.args.row c.in-Err-refuse.fault all
      c.in-Err-refuse.ensures.fault in
      (seen ++ on.more, on.whole, fault);
  refused = c.in-Err-refuse.ensures.refused;
  kept = c.read_on.ensures.kept;
}
