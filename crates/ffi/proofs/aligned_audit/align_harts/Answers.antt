-- Both are split over as many harts: by the laws of lists that are split, which no tactic finds.
use Rattle.std.proofs.Common.{◌∙◌, IfOk, subst, sym}
use Rattle.auditing.specs.Aligned.{AreAligned}
use Rattle.auditing.specs.Split.{AreSplit}
use Rattle.frames.specs.Counted.{messages_in}
use Rattle.ffi.proofs.aligned_audit.align_harts.Goals as goal

pub align_lists-requires : goal.align_lists-requires
align_lists-requires c = record { harts = c.requires.split.count ∙ sym c.in_ok-sent.ensures.split.count }

pub returns : goal.returns
returns c =
    let own = c.args.own.now in
    let came = c.args.came.now in
    let sent = c.in_ok-sent.sent in
    let messages = c.as_slice.ensures.value in
    subst (λ by. IfOk c.align_lists.result (λ all. AreAligned by own.harts own.messages.items (messages_in came.spans.items)
    all.items)) c.in_ok-sent.ensures.by
    (c.align_lists.ensures own.harts own.messages.items (messages_in came.spans.items)
    (subst (λ m. AreSplit sent.by own.harts m sent.lists) messages
    (subst (λ by. AreSplit by own.harts c.as_slice.result.now sent.lists) (sym c.in_ok-sent.ensures.by)
    c.in_ok-sent.ensures.split))
    (subst (λ by. AreSplit by own.harts (messages_in came.spans.items) came.payloads.lists) (sym c.in_ok-sent.ensures.by)
    c.requires.split))
