-- The clauses hold of each log that the encoder stands for, which the search does not instantiate.
use Rattle.std.proofs.Common.{[], take, ◌∙◌}
use Rattle.std.proofs.lemmas.List.{append-nil}
use Rattle.rvclass.proofs.WordsLemmas.{words_stand}
use Rattle.rvclass.specs.Fetch.{words_of}
use Rattle.encoder.specs.PacketsSoFar.{packets_so_far}
use Rattle.encoder.proofs.SeveralEvents.{stands_by, profile_by}
use Rattle.encoder.proofs.encoder.Encoder.push_until_packet.Goals as goal

pub returns-clause-stands : goal.returns-clause-stands
returns-clause-stands c = λ period mode log stands legal.
    (stands_by (words_of c.args.program.now) period mode log (take c.run.result.0 c.args.events.now) c.args.self.now
    c.run.new.self _ stands legal c.run.ensures.becomes).stands

pub returns-clause-packets : goal.returns-clause-packets
returns-clause-packets c = λ period mode log stands legal.
    (stands_by (words_of c.args.program.now) period mode log (take c.run.result.0 c.args.events.now) c.args.self.now
    c.run.new.self _ stands legal c.run.ensures.becomes).more

pub returns-clause-first : goal.returns-clause-first
returns-clause-first c = λ period count mode log stands legal few.
    (stands_by (words_of c.args.program.now) period mode log (take count c.args.events.now) c.args.self.now _ []
    stands legal (c.run.ensures.first count few)).more
    ∙ append-nil (packets_so_far (words_of c.args.program.now) period mode log)

pub returns-clause-profile : goal.returns-clause-profile
returns-clause-profile c = λ period mode log stands legal.
    let words = words_of c.args.program.now in
    profile_by words period mode log (take c.run.result.0 c.args.events.now) c.run.new.self c.run.result.1
    (λ addr word held. (words_stand c.args.program.now addr word held).even)
    (stands_by words period mode log (take c.run.result.0 c.args.events.now) c.args.self.now c.run.new.self _ stands
    legal c.run.ensures.becomes)
