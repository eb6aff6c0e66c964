-- Lines in a row are one line by a lemma about their steps.
use Rattle.std.proofs.Common.{rules, ◌+◌, sym, subst}
use Rattle.rvclass.specs.Fetch.{words_of}
use Rattle.decoder.proofs.AlongLines.{skip_read, line_join, one_step}
use Rattle.decoder.specs.steps.Segments.{addr_of}
use Rattle.decoder.specs.steps.StraightLines.{IsLine}
use Rattle.decoder.proofs.skips.skip_from.Goals as goal

pub returns-then-one : goal.returns-then-one
returns-then-one c =
    let words = words_of c.args.program.now in
    let segments = c.args.segments.now in
    let at = c.in-Some-place_at.at in
    let one = c.in-Some-get.one.now in
    let two = c.in-Some-get-2.two.now in
    let from = c.in-Some.ensures in
    let first = subst (λ a. IsLine words 1 a (addr_of segments at)) (sym from)
    (one_step words c.in-Some.addr c.in-Some-straight_on.next (addr_of segments at) (search rules)
    c.in-Some-place_at.ensures) in
    let second = skip_read words segments c.args.skips.now at one c.requires.skips c.in-Some-get.ensures.lookup.3.0
    c.in-Some-get.ensures.lookup.1 in
    let third = skip_read words segments c.args.skips.now one.to two c.requires.skips c.in-Some-get-2.ensures.lookup.3.0
    c.in-Some-get-2.ensures.lookup.1 in
    line_join words (1 + one.steps) two.steps _ _ _ (line_join words 1 one.steps _ _ _ first second) third
