-- The harts of frames are known: by a lemma on spans, which no tactic finds.
use Rattle.std.proofs.Common.{◌∙◌, None, sym, subst}
use Rattle.frames.proofs.KnownHarts.{HasCounted, below, none_counted}
use Rattle.frames.specs.Start.{spans_of}
use Rattle.frames.proofs.counting.harts_found.Goals as goal

pub loop-span-init : goal.loop-span-init
loop-span-init c =
    let spans = spans_of None c.args.capture.now in
    subst (λ left. HasCounted 1024 spans left 1)
    (sym (c.into_iter-span-iterator.ensures.into_iter_gives ∙ c.spans_of-span-items.ensures))
    (none_counted 1024 spans (below 1024 0 c.args.capture.now))
