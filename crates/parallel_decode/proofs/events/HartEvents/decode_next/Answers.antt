-- The next message is found at its place and is decoded: by lemmas on what is left.
use Rattle.std.proofs.Common.{◌≡◌, ◌∙◌, ◌+◌, ◌++◌, ◌∷◌, [], Ok, Some, ap, append_assoc, subst, sym}
use Rattle.payload.specs.Reading.{reading}
use Rattle.payload.specs.declared.packet.Packet.{Packet}
use Rattle.message.specs.declared.message.Message.{Message}
use Rattle.parallel_decode.specs.Places.{IsAt}
use Rattle.parallel_decode.proofs.LeftLemmas.{decoded_more, described, hands_more, is_found, never_none, packet, packets, words}
use Rattle.decoder.specs.Describes.{Describes}
use Rattle.parallel_decode.proofs.events.HartEvents.decode_next.Goals as goal

pub returns-in_default-packet_at-clause-hands : goal.returns-in_default-packet_at-clause-hands
returns-in_default-packet_at-clause-hands g c = λ rest has none within.
    let finds = subst (λ place. (message : Message) (packet : Packet) → IsAt c.args.self.now.bytes.now place message
    → reading message.payload ≡ Ok packet → c.packet_at.result ≡ Some packet) c.in-Some.ensures.lookup.1 c.packet_at.ensures.read in
    absurd (never_none rest c.args.self.now has c.in-Some.place.now within c.packet_at.result finds c.in_default-packet_at.is)

pub returns-in_default-packet_at-clause-taken : goal.returns-in_default-packet_at-clause-taken
returns-in_default-packet_at-clause-taken g c = λ rest has within.
    let finds = subst (λ place. (message : Message) (packet : Packet) → IsAt c.args.self.now.bytes.now place message
    → reading message.payload ≡ Ok packet → c.packet_at.result ≡ Some packet) c.in-Some.ensures.lookup.1 c.packet_at.ensures.read in
    absurd (never_none rest c.args.self.now has c.in-Some.place.now within c.packet_at.result finds c.in_default-packet_at.is)

pub returns-in_default-feed_packet-clause-hands : goal.returns-in_default-feed_packet-clause-hands
returns-in_default-feed_packet-clause-hands g c = λ rest has none within.
    let self = c.args.self.now in
    let any = c.in-Some.place.now in
    let finds = subst (λ place. (message : Message) (packet : Packet) → IsAt self.bytes.now place message
    → reading message.payload ≡ Ok packet → c.packet_at.result ≡ Some packet) c.in-Some.ensures.lookup.1 c.packet_at.ensures.read in
    let same = is_found rest self has any within c.packet_at.result c.in-Some-packet_at.packet finds c.in-Some-packet_at.is in
    let all = described rest self has any within in
    absurd (c.in_default-feed_packet.ensures.adds_none (packets rest self has any within) has.front has.decoded.stands all.0
    (subst (λ p. Describes (words rest self has) (packets rest self has any within ++ p ∷ []) all.0) (sym same) all.1))

pub returns-in_default-feed_packet-clause-taken : goal.returns-in_default-feed_packet-clause-taken
returns-in_default-feed_packet-clause-taken g c = λ rest has within.
    let self = c.args.self.now in
    let any = c.in-Some.place.now in
    let finds = subst (λ place. (message : Message) (packet : Packet) → IsAt self.bytes.now place message
    → reading message.payload ≡ Ok packet → c.packet_at.result ≡ Some packet) c.in-Some.ensures.lookup.1 c.packet_at.ensures.read in
    let same = is_found rest self has any within c.packet_at.result c.in-Some-packet_at.packet finds c.in-Some-packet_at.is in
    let all = described rest self has any within in
    absurd (c.in_default-feed_packet.ensures.adds_none (packets rest self has any within) has.front has.decoded.stands all.0
    (subst (λ p. Describes (words rest self has) (packets rest self has any within ++ p ∷ []) all.0) (sym same) all.1))

pub returns-clause-hands : goal.returns-clause-hands
returns-clause-hands g c = λ rest has none within.
    let self = c.args.self.now in
    let any = c.in-Some.place.now in
    let finds = subst (λ place. (message : Message) (packet : Packet) → IsAt self.bytes.now place message
    → reading message.payload ≡ Ok packet → c.packet_at.result ≡ Some packet) c.in-Some.ensures.lookup.1 c.packet_at.ensures.read in
    let same = is_found rest self has any within c.packet_at.result c.in-Some-packet_at.packet finds c.in-Some-packet_at.is in
    let left = c.in-Ok.left in
    let old = c.args.piece.now.items in
    let new = c.feed_packet.new.piece.items in
    let decoder = c.feed_packet.new.decoder in
    let more = c.feed_packet.ensures.goes_on in
    let all : new ++ left ≡ old ++ (more.0 ++ left) = ap (λ l. l ++ left) more.1 ∙ append_assoc old more.0 left in
    let own = packets rest self has any within in
    let first = decoded_more rest self has any within c.in-Some-packet_at.packet same more.0 left old new decoder none more.1
    (c.in-Ok.ensures.adds own has.front (more.0 ++ left) has.decoded.stands all)
    (c.in-Ok.ensures.only own has.front (more.0 ++ left) has.decoded.stands all) in
    hands_more rest old new c.hand_out.new.piece.items
    (record self { taken = self.taken + 1; decoder = decoder; left = Some left }) c.hand_out.new.self first
    (c.hand_out.ensures.hands first.left first.has)
