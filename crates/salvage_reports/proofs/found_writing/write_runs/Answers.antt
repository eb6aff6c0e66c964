-- One run more is written: by lemmas on parts of a text, which no tactic finds.
use Rattle.std.proofs.Common.{◌∷◌, subst}
use Rattle.std.specs.Io.KnownBytes.{Appends}
use Rattle.std.specs.List.{flat_map}
use Rattle.output.specs.Begun.{AppendsBeginning}
use Rattle.output.proofs.FieldParts.{HasWritten, part_begun, part_more, part_none}
use Rattle.salvage_reports.specs.Layouts.{run_text}
use Rattle.salvage_reports.specs.SalvagedItems.{text_if}
use Rattle.salvage_reports.proofs.found_writing.write_runs.Goals.{In-Some}
use Rattle.salvage_reports.proofs.found_writing.write_runs.Goals as goal

pub loop-span-init : goal.loop-span-init
loop-span-init g c =
    rw c.into_iter-span-iterator.ensures.into_iter_gives
    (part_none (flat_map (run_text c.args.layout) c.args.spans) (g.O.Write.contents c.args.out.now))

module _ (g : _) (c : In-Some g) where
  -- What is written so far, before the span that came and the others.
  so_far : HasWritten (flat_map (run_text c.args.layout) c.args.spans)
      (flat_map (run_text c.args.layout) (c.in-Some.span ∷ c.next.new.self)) (g.O.Write.contents c.args.out.now)
      (g.O.Write.contents c.loop-span.out)
  so_far =
      subst
      (λ left. HasWritten (flat_map (run_text c.args.layout) c.args.spans) (flat_map (run_text c.args.layout) left)
      (g.O.Write.contents c.args.out.now) (g.O.Write.contents c.loop-span.out)) c.in-Some.ensures.steps
      c.loop-span.invariant

pub returns-in_err-write_if-clause-begun : goal.returns-in_err-write_if-clause-begun
returns-in_err-write_if-clause-begun g c =
    let mid = g.O.Write.contents c.loop-span.out in
    let new = g.O.Write.contents c.write_if.new.out in
    part_begun (flat_map (run_text c.args.layout) c.args.spans) (run_text c.args.layout c.in-Some.span)
    (flat_map (run_text c.args.layout) c.next.new.self) (g.O.Write.contents c.args.out.now) mid new
    (so_far g (goal.at.returns-in_err-write_if-clause-begun g c).In-Some)
    (subst (λ one. AppendsBeginning (text_if c.args.layout one) mid new) c.run_of.ensures c.write_if.ensures.begun)

pub loop-span-preserved : goal.loop-span-preserved
loop-span-preserved g c =
    let mid = g.O.Write.contents c.loop-span.out in
    let new = g.O.Write.contents c.write_if.new.out in
    part_more (flat_map (run_text c.args.layout) c.args.spans) (run_text c.args.layout c.in-Some.span)
    (flat_map (run_text c.args.layout) c.next.new.self) (g.O.Write.contents c.args.out.now) mid new
    (so_far g (goal.at.loop-span-preserved g c).In-Some)
    (subst (λ one. Appends mid new (text_if c.args.layout one)) c.run_of.ensures c.in_ok-write_if.ensures.text)
