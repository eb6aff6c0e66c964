-- What the skip tells of is a line by a lemma about lists.
use Rattle.std.proofs.Common.{rules}
use Rattle.rvclass.specs.Fetch.{words_of}
use Rattle.decoder.proofs.AlongLines.{line_read}
use Rattle.decoder.proofs.lines.line_ahead.Goals as goal

pub returns : goal.returns
returns c =
    let words = words_of c.args.paths.program.now in
    let skip = c.in_ok-skip.skip.now in
    record {
      other = search rules;
      straight = line_read words c.args.paths.segments.now c.args.paths.skips.now c.in_ok-place.place skip
          c.args.here.now.addr c.in_ok-to.to
          c.args.paths.lead c.in_ok-skip.ensures.lookup.3.0 c.in_ok-skip.ensures.lookup.1 c.in_ok-place.ensures
          c.in_ok-to.ensures;
      beyond = search rules;
      clear = search rules;
      some = search rules;
      few = search rules;
    }
