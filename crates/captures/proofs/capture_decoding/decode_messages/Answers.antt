-- What was collected is what is decoded: by a law on captures, which no tactic finds.
use Rattle.rvclass.specs.Fetch.{words_of}
use Rattle.captures.proofs.ReachingHarts.{collected_decoded}
use Rattle.receiver.specs.Received.{events_in}
use Rattle.captures.proofs.capture_decoding.decode_messages.Goals as goal

pub returns : goal.returns
returns g c =
    let words = words_of c.args.program.now in
    let harts = c.args.harts in
    collected_decoded c.args.range words harts c.args.announced c.args.messages c.collect-fault.new.receiver
    c.collect-fault.result
    (events_in c.into_parts-harts.result.0.items) c.into_parts-harts.result.1.items
    (c.collect-fault.ensures harts (c.in_ok-receiver.ensures (λ hart. words)))
    (c.into_parts-harts.ensures.decoded (λ hart. words) harts)
