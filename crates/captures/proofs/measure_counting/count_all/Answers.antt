-- The packets so far and one more are counted by lemmas on measures.
use Rattle.std.proofs.Common.{◌∙◌, ◌^◌, ◌+◌, [], ◌∷◌, ap, arith, length, subst, sym}
use Rattle.std.proofs.lemmas.List.Elements.{All-get_or}
use Rattle.payload.specs.Profile.{InProfile}
use Rattle.payload.specs.Spelling.{payload_of}
use Rattle.captures.specs.Measures.{measured, together}
use Rattle.captures.proofs.CountedTogether.{one_packet_more}
use Rattle.captures.proofs.Within.{AreWithin-le, GrowsBy-le, GrowsBy-trans}
use Rattle.captures.proofs.measure_counting.count_all.Goals as goal

pub count_packet-requires : goal.count_packet-requires
count_packet-requires c =
    AreWithin-le (2 ^ 48 + c.loop-packet.packet-index) (2 ^ 50) c.loop-packet.measures
    (omega (arith, c.loop-packet-test.true, c.requires.few)) (c.loop-packet.invariant.grows (2 ^ 48) c.requires.room)

pub loop-packet-preserved : goal.loop-packet-preserved
loop-packet-preserved c =
    let packet = c.packet-item.result in
    let at = c.loop-packet.packet-index in
    let one = measured [] (packet ∷ []) (payload_of packet ∷ []) in record {
      value = λ all.
          let profile = subst InProfile (sym c.packet-item.is)
          (All-get_or InProfile c.args.packets.now at packet c.loop-packet-test.true all) in
          c.count_packet.ensures.value profile
          ∙ ap (λ before. together before one) (c.loop-packet.invariant.value all)
          ∙ one_packet_more c.args.measures.now c.args.packets.now at packet c.loop-packet-test.true c.packet-item.is;
      grows = GrowsBy-trans at 1 c.args.measures.now c.loop-packet.measures c.count_packet.new.measures
          c.loop-packet.invariant.grows c.count_packet.ensures.grows;
    }

pub returns-clause-grows : goal.returns-clause-grows
returns-clause-grows c =
    GrowsBy-le c.loop-packet.packet-index (length c.args.packets.now) c.args.measures.now c.loop-packet.measures
    (omega (arith, c.loop-packet.auto.packet-index-end)) c.loop-packet.invariant.grows
