-- Packets are known by their shortest payloads: by a lemma, which no tactic finds.
use Rattle.std.proofs.Common.{◌∙◌}
use Rattle.payload.proofs.SameLemmas.{one_packet}
use Rattle.payload.proofs.comparing.same_packet.Goals as goal

pub returns : goal.returns
returns c =
    one_packet c.args.one.now c.args.other.now _ _ c.eq.result c.requires.one c.requires.other
    (c.bytes.ensures.same ∙ c.pack-one_payload.ensures.value) (c.bytes-2.ensures.same ∙ c.pack-other_payload.ensures.value)
    c.eq.ensures
