-- The place of a segment's address is that of all segments by a lemma.
use Rattle.std.proofs.Common.{◌≡◌, ◌+◌, ◌-◌, ◌*◌, ◌/◌, ◌%◌, ◌<◌, ◌≤◌, arith, length, refl, rules}
use Rattle.std.proofs.lemmas.Option.{slice_get_read}
use Rattle.decoder.proofs.NumberedSegments.{addr_back}
use Rattle.decoder.proofs.segments.place_by.Goals as goal

pub returns : goal.returns
returns c =
    let segments = c.args.segments.now in
    let segment = c.in_ok-segment.segment.now in
    let bytes = c.in_ok-bytes.bytes in
    let halves = c.in-Ok.halves in
    let even : bytes % 2 ≡ 0 = search rules in
    let far : bytes ≡ segment.end - c.args.addr = search rules in
    let below : c.args.addr ≤ segment.end = search rules in
    let half : halves ≡ bytes / 2 = search rules in
    let some = c.if-halves-eq0.false in
    let few = c.if-halves-segment.false in
    let at : c.in_ok-place.place ≡ segment.first + (halves - 1) = search rules in
    addr_back segments c.args.number c.in_ok-place.place (halves - 1) c.args.addr segment c.requires
    (slice_get_read segments (length segments) c.args.number segment refl c.in_ok-segment.ensures.lookup.3.0
    c.in_ok-segment.ensures.lookup.1)
    at (omega (arith, some, few)) (omega (arith, even, far, below, half, some))
