-- The clauses of the encoder hold of each log, which the search does not instantiate.
use Rattle.std.proofs.Common.{length, map, subst, ap, ◌∙◌, arith}
use Rattle.encoder.specs.StateStands.{encoder_of}
use Rattle.ffi.proofs.WrittenInTurn.{fitted, kept}
use Rattle.ffi.specs.Handed.{IsHandedOut}
use Rattle.ffi.specs.Numbers.{numbers_of}
use Rattle.ffi.specs.steps.PushingAll.{NoRoom, Pushed}
use Rattle.ffi.proofs.pushing_all.push_next.Goals as goal

pub returns-then-status-ne-DONE : goal.returns-then-status-ne-DONE
returns-then-status-ne-DONE c =
    let status = c.hand_out_packets-status.result in
    let count = c.hand_out_packets-status.new.count in
    let old = c.args.packets.now in
    let new = c.hand_out_packets-status.new.packets in
    let stays = kept numbers_of c.push-burst.result.items status count old new
    (subst (λ xs. IsHandedOut (map numbers_of xs) status count old new) c.as_slice.ensures.value
    c.hand_out_packets-status.ensures.handed) c.if-status-ne-DONE.true in
    let many = ap length c.as_slice.ensures.value in
    let fits = c.as_slice.ensures.fits in
    NoRoom c.push-burst.result.items
    (λ period mode log stands legal. c.push-burst.ensures.packets period mode log stands legal)
    (omega (arith, many, fits)) stays.small stays.said
    (ap encoder_of c.from_state.ensures.back ∙ c.state-kept.ensures.back) stays.stays

pub returns-else-status-ne-DONE : goal.returns-else-status-ne-DONE
returns-else-status-ne-DONE c =
    let status = c.hand_out_packets-status.result in
    let count = c.hand_out_packets-status.new.count in
    let old = c.args.packets.now in
    let new = c.hand_out_packets-status.new.packets in
    let done = fitted numbers_of c.push-burst.result.items status count old new
    (subst (λ xs. IsHandedOut (map numbers_of xs) status count old new) c.as_slice.ensures.value
    c.hand_out_packets-status.ensures.handed) c.if-status-ne-DONE.false in
    let many = ap length c.as_slice.ensures.value in
    let fits = c.as_slice.ensures.fits in
    Pushed c.push-burst.result.items (λ period mode log stands legal. record {
      stands = c.push-burst.ensures.stands period mode log stands legal;
      grown = c.push-burst.ensures.packets period mode log stands legal;
      profile = c.push-burst.ensures.profile period mode log stands legal;
    }) (omega (arith, many, fits)) done.counted done.fit done.written c.if-status-ne-DONE.false
