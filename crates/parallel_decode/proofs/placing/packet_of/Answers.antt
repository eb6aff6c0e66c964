-- What the payload unpacks to is one value.
use Rattle.std.proofs.Common.{◌≡◌, ◌∙◌, Some, ap, sym}
use Rattle.payload.specs.Reading.{reading}
use Rattle.parallel_decode.proofs.placing.packet_of.Goals as goal

pub returns-in-Ok-clause-read : goal.returns-in-Ok-clause-read
returns-in-Ok-clause-read c = λ packet read.
    let found = sym c.in-Ok.is ∙ c.unpack.ensures.value ∙ ap reading c.bytes.ensures.same ∙ read in
    let same : c.in-Ok.packet ≡ packet = cc in
    ap Some same

pub returns-in-Ok-clause-found : goal.returns-in-Ok-clause-found
returns-in-Ok-clause-found c = sym (c.unpack.ensures.value ∙ ap reading c.bytes.ensures.same) ∙ c.in-Ok.is
