-- The address of a segment's place is that of all segments by a lemma.
use Rattle.std.proofs.Common.{◌≡◌, ◌+◌, ◌-◌, ◌*◌, ◌<◌, ◌≤◌, arith, length, refl, rules}
use Rattle.std.proofs.lemmas.Option.{slice_get_read}
use Rattle.decoder.proofs.NumberedSegments.{addr_back}
use Rattle.decoder.proofs.segments.addr_by.Goals as goal

pub returns : goal.returns
returns c =
    let segments = c.args.segments.now in
    let segment = c.in_ok-segment.segment.now in
    let back = c.in_ok-back.back in
    let less = c.if-back-segment.false in
    let at : back ≡ c.args.place - segment.first = search rules in
    let above : segment.first ≤ c.args.place = search rules in
    let there : c.in_ok-addr.addr ≡ segment.end - 2 * (back + 1) = search rules in
    addr_back segments c.args.number c.args.place back c.in_ok-addr.addr segment c.requires
    (slice_get_read segments (length segments) c.args.number segment refl c.in_ok-segment.ensures.lookup.3.0
    c.in_ok-segment.ensures.lookup.1)
    (omega (arith, at, above)) (omega (arith, less)) there
