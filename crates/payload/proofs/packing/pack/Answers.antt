-- The clauses are laws of `payload_of`, which the search does not look for.
use Rattle.std.proofs.Common.{◌∙◌, ap}
use Rattle.payload.specs.Reading.{reading}
use Rattle.payload.proofs.ReadingLaws.{payload_of-shortest, reading-payload_of}
use Rattle.payload.proofs.packing.pack.Goals as goal

pub returns-clause-shortest : goal.returns-clause-shortest
returns-clause-shortest c = rw c.packed.ensures (payload_of-shortest c.args.packet.now c.requires)

pub returns-clause-unpacks : goal.returns-clause-unpacks
returns-clause-unpacks c = ap reading c.packed.ensures ∙ reading-payload_of c.args.packet.now c.requires
