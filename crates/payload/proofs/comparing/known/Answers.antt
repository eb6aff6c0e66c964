-- The shortest payload of the packet: by a lemma on what payloads are known by, which no tactic finds.
use Rattle.std.proofs.Common.{◌∙◌, ap, sym}
use Rattle.payload.specs.Reading.{reading}
use Rattle.payload.proofs.SameLemmas.{known_shortest}
use Rattle.payload.proofs.comparing.known.Goals as goal

pub returns-in-Ok : goal.returns-in-Ok
returns-in-Ok c =
    c.pack.ensures.value
    ∙ known_shortest c.args.by c.args.payload.now c.in-Ok.packet c.in-Packets.is
    (ap reading (sym c.bytes.ensures.same) ∙ sym c.unpack.ensures.value ∙ c.in-Ok.is)
