-- What is found of a capture is what is found of its messages: by lemmas, which no tactic finds.
use Rattle.std.proofs.Common.{subst, sym}
use Rattle.rvclass.specs.Fetch.{words_of}
use Rattle.captures.specs.Decoded.{IsDecodedOf}
use Rattle.parallel_decode.proofs.CaptureLemmas.{never_memory_at, placed_logs}
use Rattle.parallel_decode.specs.Surveyed.{NeverMemory}
use Rattle.parallel_decode.proofs.index_capturing.survey_capture.Goals as goal

pub returns : goal.returns
returns g c =
    let words = words_of c.args.capture.now.program.now in
    let body = c.body_of-body.result in
    let survey = c.in_ok-survey.survey in
    let is = c.in_ok-survey.ensures in
    record {
      lists = is.lists;
      decoded = subst (IsDecodedOf c.args.capture.now.range words c.args.capture.now.harts c.args.capture.now.bytes.now is.lists survey.closed.items)
          (sym c.fault_or.ensures) (c.body_of-body.ensures c.args.capture.now.range words is.lists _ _ is.decoded);
      placed = placed_logs c.args.capture.now.range words body.harts body.announced body.bytes.now survey is;
      never_memory = subst NeverMemory (sym c.fault_or.ensures)
          (never_memory_at body.fault survey.fault is.never_memory);
    }
