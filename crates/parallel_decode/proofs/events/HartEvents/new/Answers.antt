-- Nothing is decoded yet, and all events are left.
use Rattle.std.proofs.Common.{[], refl}
use Rattle.rvclass.specs.Fetch.{words_of}
use Rattle.parallel_decode.proofs.LeftLemmas.{none_decoded}
use Rattle.parallel_decode.proofs.events.HartEvents.new.Goals as goal

pub returns : goal.returns
returns c = λ log is.
    let words = words_of c.args.program.now in
    record {
      log = log;
      is = is;
      front = [];
      decoded = none_decoded words is.messages c.new.result (c.new.ensures.stands words);
      handed = [];
      front_is = refl;
      whole = refl;
    }
