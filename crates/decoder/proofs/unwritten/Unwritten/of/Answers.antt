-- What is left of whole stretches is a lemma about walks.
use Rattle.rvclass.specs.Fetch.{words_of}
use Rattle.decoder.proofs.HandsOut.{are_rests, rests_give}
use Rattle.decoder.proofs.unwritten.Unwritten.of.Goals as goal

pub invariant_of-result : goal.invariant_of-result
invariant_of-result c =
    let events = c.requires.events in
    are_rests (words_of c.args.program.now) c.requires.program _ _ _ _ _ _ events.2 events.3 c.of.ensures.rest
    c.of-2.ensures.rest c.of.ensures.course c.of-2.ensures.course c.requires.few

pub returns : goal.returns
returns c = λ settled of_packet gives gives'.
    rests_give (words_of c.args.program.now) c.requires.program _ _ settled of_packet _ _ gives gives'
    c.of.ensures.rest c.of-2.ensures.rest c.of.ensures.course c.of-2.ensures.course
