-- One segment more is a lemma about lists.
use Rattle.std.proofs.Common.{◌∙◌, ◌+◌, ap, subst, sym}
use Rattle.decoder.proofs.NumberedSegments.{segments_pushed, next_pushed}
use Rattle.decoder.specs.steps.Segments.{AreSegments, next_place}
use Rattle.decoder.proofs.segments.add_segment.Goals as goal

pub returns-clause-numbered : goal.returns-clause-numbered
returns-clause-numbered g c =
    subst (AreSegments 0) (sym c.push_reserved.ensures.items)
    (segments_pushed c.args.segments.now.items 0 _ c.requires.numbered c.requires.first)

pub returns-clause-next : goal.returns-clause-next
returns-clause-next g c =
    ap (λ n. n + c.halves_of-count.result) c.requires.first
    ∙ sym (ap (next_place 0) c.push_reserved.ensures.items ∙ next_pushed c.args.segments.now.items 0 _)
