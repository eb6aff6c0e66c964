-- What is found of a capture is what is found of its messages: by lemmas, which no tactic finds.
use Rattle.std.proofs.Common.{subst, sym}
use Rattle.rvclass.specs.Fetch.{words_of}
use Rattle.captures.specs.Decoded.{IsDecodedOf}
use Rattle.parallel_decode.proofs.CaptureLemmas.{never_memory_at}
use Rattle.parallel_decode.specs.Surveyed.{NeverMemory}
use Rattle.parallel_decode.proofs.capturing.survey_capture_side_by_side.Goals as goal

pub returns : goal.returns
returns g c =
    let capture = c.args.capture.now in
    let words = words_of capture.program.now in
    let survey = c.in_ok-survey.survey in
    let is = c.in_ok-survey.ensures in
    record {
      lists = is.lists;
      decoded = subst (IsDecodedOf capture.range words capture.harts capture.bytes.now is.lists survey.closed.items)
          (sym c.fault_or.ensures) (c.body_of-body.ensures capture.range words is.lists _ _ is.decoded);
      marked = is.marked;
      never_memory = subst NeverMemory (sym c.fault_or.ensures)
          (never_memory_at c.body_of-body.result.fault survey.fault is.never_memory);
    }
