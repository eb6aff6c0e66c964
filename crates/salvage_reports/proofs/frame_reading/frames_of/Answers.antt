-- One span more is read: by lemmas on lists, which no tactic finds.
use Rattle.std.proofs.Common.{subst}
use Rattle.frames.specs.Search.{chosen}
use Rattle.salvage_reports.proofs.OffsetLists.{ReadSo, read_all, read_chosen}
use Rattle.salvage_reports.proofs.frame_reading.frames_of.Goals as goal

pub loop-span-preserved : goal.loop-span-preserved
loop-span-preserved c =
    let only = c.args.only in
    let all = chosen only c.args.spans in
    read_chosen only c.args.harts all c.next.new.self c.in-Some.span c.loop-span.frames c.add_span.new.frames
    (subst (λ left. ReadSo c.args.harts all (chosen only left) c.loop-span.frames) c.in-Some.ensures.steps
    c.loop-span.invariant) c.in_ok-add_span.ensures

pub returns : goal.returns
returns c =
    let only = c.args.only in
    let all = chosen only c.args.spans in
    read_all c.args.harts all c.loop-span.frames
    (subst (λ left. ReadSo c.args.harts all (chosen only left) c.loop-span.frames) c.in-None.ensures.steps.0
    c.loop-span.invariant)
