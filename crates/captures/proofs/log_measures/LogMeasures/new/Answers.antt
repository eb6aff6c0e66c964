-- The clause holds for any program, which the search does not instantiate.
use Rattle.std.proofs.Common.{[], subst, sym}
use Rattle.payload.specs.Profile.{InProfile}
use Rattle.captures.proofs.LogsInPieces.{opened}
use Rattle.captures.proofs.log_measures.LogMeasures.new.Goals as goal

pub returns-clause-none : goal.returns-clause-none
returns-clause-none c = λ words.
    let stands = c.new-encoder.ensures words in
    let profile = subst InProfile (sym (c.open-opening.ensures.open words c.args.period c.args.mode [] stands)) tt in
    opened words c.args.period c.args.mode c.open-opening.result c.new-encoder.result c.open-opening.new.self
    c.none-measures.result c.count_packet.new.measures stands c.open-opening.ensures.same
    (c.open-opening.ensures.packets words c.args.period c.args.mode [] stands) c.none-measures.ensures
    (c.count_packet.ensures.value profile)
