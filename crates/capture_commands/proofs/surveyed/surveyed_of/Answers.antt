-- What is found is what the capture decodes to: by lemmas on lists.
use Rattle.std.proofs.Common.{◌∙◌, subst, sym}
use Rattle.comparing.specs.Counts.{AreCounted}
use Rattle.rvclass.specs.Fetch.{words_of}
use Rattle.comparing.proofs.DecodedHarts.{flags_many}
use Rattle.comparing.proofs.HeldHarts.{held_of}
use Rattle.capture_commands.proofs.FoundHarts.{no_memory}
use Rattle.capture_commands.proofs.surveyed.surveyed_of.Goals as goal

pub returns-clause-found : goal.returns-clause-found
returns-clause-found g c =
    let words = words_of c.args.input.now.program.now in
    let survey = c.in_ok-found.found.survey in
    let is = c.in_ok-found.ensures in
    record {
      lists = is.lists;
      are = record {
        placed = is.placed;
        flags = flags_many c.args.input.now.only words c.args.harts c.args.input.now.bytes.now is.lists
            survey.closed.items survey.fault is.decoded;
      };
      got = held_of c.args.input.now.only words c.args.harts c.args.input.now.bytes.now is.lists survey.closed.items
          c.in_ok-counts.counts.items survey.fault is.decoded
          (subst (λ n. AreCounted c.args.input.now.bytes.now n survey.fault c.in_ok-counts.counts.items)
          (c.len.ensures ∙ survey.places.ok.0 ∙ sym is.placed.count) c.in_ok-counts.ensures);
    }

pub returns-clause-no_memory : goal.returns-clause-no_memory
returns-clause-no_memory g c = no_memory c.in_ok-found.found.survey.fault c.in_ok-found.ensures.never_memory
