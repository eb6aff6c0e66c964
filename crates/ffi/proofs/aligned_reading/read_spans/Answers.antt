-- The spans are read one after the other: by lemmas on what is left, which no tactic finds.
use Rattle.std.proofs.Common.{◌∙◌, ◌+◌, ◌-◌, ◌^◌, ◌++◌, ◌∷◌, [], ap, append_assoc, append-nil, length, min, refl, subst, sym}
use Rattle.auditing.specs.Split.{AreSplit}
use Rattle.frames.proofs.CountedLemmas.{messages-more}
use Rattle.frames.specs.Counted.{messages_in}
use Rattle.frames.specs.Passages.{spans_from, spans_left}
use Rattle.ffi.proofs.AlignedSpans.{AreCounted, counted_more}
use Rattle.ffi.proofs.aligned_reading.read_spans.Goals as goal

pub loop-span-preserved : goal.loop-span-preserved
loop-span-preserved c =
    let left = c.loop-span.left in
    let next = c.next.new.self in
    let span = c.in-Some.span in
    let spans = c.loop-span.spans.items in
    let more = c.push.new.self.items in
    let adds = c.in_ok-push.ensures.items in
    let by_is = c.loop-span.invariant.3 in (
      λ sees same.
          c.loop-span.invariant.0 sees same
          ∙ ap (λ rest. spans ++ rest) (c.in-Some.ensures.spans sees same)
          ∙ sym (append_assoc spans (span ∷ []) (spans_left sees next))
          ∙ ap (λ l. l ++ spans_left sees next) (sym adds),
      λ short.
          subst (λ n. AreCounted more n (length next.bytes) (length c.args.scan.bytes)) (sym c.saturating_add-bytes.ensures)
          (subst (λ l. AreCounted l (min (c.loop-span.bytes + c.in_ok-more.more) (2 ^ 64 - 1)) (length next.bytes)
          (length c.args.scan.bytes)) (sym adds)
          (counted_more spans span c.loop-span.bytes c.in_ok-more.more (length left.bytes) (length next.bytes)
          (length c.args.scan.bytes) short c.in_ok-more.ensures.bytes c.in-Some.ensures.sizes.1
          (c.loop-span.invariant.1 short))),
      λ harts fresh.
          subst (λ m. AreSplit c.args.payloads.now.by harts m c.add_payload.new.payloads.lists)
          (sym (ap messages_in adds ∙ messages-more spans span))
          (subst (λ by. AreSplit by harts (messages_in spans ++ messages_in (span ∷ [])) c.add_payload.new.payloads.lists)
          by_is
          (c.in_ok-more.ensures.split harts (messages_in spans)
          (subst (λ by. AreSplit by harts (messages_in spans) c.loop-span.payloads.lists) (sym by_is)
          (c.loop-span.invariant.2 harts fresh)))),
      c.add_payload.ensures.by ∙ by_is,
    )

pub returns-clause-spans : goal.returns-clause-spans
returns-clause-spans c = λ sees same.
    let left = c.loop-span.left in
    let none = ap (spans_from sees left.offset) (c.in_default.ensures.end refl) in
    sym (c.loop-span.invariant.0 sees same ∙ ap (λ rest. c.loop-span.spans.items ++ rest) none
    ∙ append-nil c.loop-span.spans.items)
