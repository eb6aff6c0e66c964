-- What a receiver holds of no messages: by a law on captures, which no tactic finds.
use Rattle.std.proofs.Common.{None, [], refl}
use Rattle.rvclass.specs.Words.{Words}
use Rattle.captures.proofs.NothingDecoded.{no_lists, none_closed}
use Rattle.receiver.specs.Received.{events_in}
use Rattle.captures.proofs.capture_decoding.decode_nothing.Goals as goal

pub returns : goal.returns
returns g c =
    let words : Words = λ at. None in
    let lists = events_in c.into_parts-harts.result.0.items in
    let closed = c.into_parts-harts.result.1.items in
    let decoded = c.into_parts-harts.ensures.decoded (λ hart. words) c.args.harts []
    (c.in_ok-receiver.ensures (λ hart. words)).holds
    in (
      no_lists words c.args.harts lists closed decoded,
      none_closed words c.args.harts lists closed decoded,
      refl,
    )
