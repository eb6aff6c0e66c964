-- What is kept of SENT sees each message as SENT does: by lemmas on captures, which no tactic finds.
use Rattle.std.proofs.Common.{◌∙◌, [], ap, arith, drop, subst, sym}
use Rattle.auditing.proofs.Recognised.{sight_of_kept}
use Rattle.auditing.specs.PayloadSights.{payload_sight}
use Rattle.auditing.specs.Split.{AreSplit}
use Rattle.frames.specs.Counted.{messages_in}
use Rattle.frames.specs.Framed.{is_framed}
use Rattle.frames.specs.Passages.{Sees, spans_from}
use Rattle.ffi.proofs.aligned_reading.read_received.Goals as goal

pub returns : goal.returns
returns c =
    let start = c.start_of-start.result in
    let bytes = c.args.received.now in
    let known = c.in_ok-known.known in
    let framed = c.is_framed-framed.result in
    let sees : Sees = payload_sight framed c.args.by c.args.sent.now in
    let from = c.first_place-from.ensures in
    let framed_is =
    c.is_framed-framed.ensures.value ∙ ap is_framed (c.bytes_from.ensures ∙ ap (λ n. drop n bytes) from) in
    record {
      starts = c.start_of-start.ensures;
      spans_are = c.in_ok-bytes.ensures.spans sees
          (λ message. sight_of_kept framed c.args.by c.args.sent.now known message c.in_ok-known.ensures)
          ∙ c.new-scan.ensures.spans sees
          ∙ (λ i. spans_from (payload_sight (framed_is i) c.args.by c.args.sent.now) (from i) (drop (from i) bytes));
      counted = c.in_ok-bytes.ensures.bytes (let few = c.new-scan.ensures.few in omega (arith, few));
      by = c.read_spans.ensures.by ∙ c.in_ok-payloads.ensures.by;
      split = subst (λ by. AreSplit by c.args.harts (messages_in c.read_spans.new.spans.items)
          c.read_spans.new.payloads.lists) c.in_ok-payloads.ensures.by
          (c.in_ok-bytes.ensures.split c.args.harts
          (subst (λ by. AreSplit by c.args.harts [] c.in_ok-payloads.payloads.lists) (sym c.in_ok-payloads.ensures.by)
          c.in_ok-payloads.ensures.split));
    }
