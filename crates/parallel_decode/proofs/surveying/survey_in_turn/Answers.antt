-- A survey without marks: by a lemma on these.
use Rattle.std.proofs.Common.{◌∙◌}
use Rattle.rvclass.specs.Fetch.{words_of}
use Rattle.parallel_decode.proofs.Merging.{unmarked}
use Rattle.parallel_decode.proofs.surveying.survey_in_turn.Goals as goal

pub returns : goal.returns
returns c =
    let s = c.in_ok-survey.ensures in record {
      lists = s.lists;
      decoded = s.decoded;
      count = s.count;
      placed = s.placed;
      marked = unmarked c.args.range (words_of c.args.work.now.program.now) c.args.harts c.args.work.now.announced
          c.args.work.now.bytes.now c.in_ok-survey.survey c.in_ok-marks.marks.items c.in_ok-marks.ensures.empty
          (c.in_ok-marks.ensures.count ∙ c.from.ensures) s;
      never_memory = s.never_memory;
    }
