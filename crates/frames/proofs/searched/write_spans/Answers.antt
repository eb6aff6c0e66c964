-- One span more is written: by lemmas on the lines of spans, which no tactic finds.
use Rattle.std.proofs.Common.{◌||◌, ◌∷◌, option_map, sym, subst}
use Rattle.frames.proofs.SpanTexts.{HasWritten, next_begun, none_written, one_written}
use Rattle.frames.proofs.searched.write_spans.Goals.{In-Some}
use Rattle.frames.proofs.searched.write_spans.Goals as goal

module _ (g : _) (c : In-Some g) where
  -- What is written so far, before the span that came and the others.
  so_far : HasWritten (option_map (λ file. file.now) c.args.symbols) c.args.harts c.args.mode c.args.spans
      (c.in-Some.span ∷ c.next.new.self) c.loop-span.damaged
      (g.W.Write.contents c.args.sink.now) (g.W.Write.contents c.loop-span.sink)
  so_far =
      subst
      (λ left. HasWritten (option_map (λ file. file.now) c.args.symbols) c.args.harts c.args.mode c.args.spans left
      c.loop-span.damaged (g.W.Write.contents c.args.sink.now)
      (g.W.Write.contents c.loop-span.sink)) c.in-Some.ensures.steps c.loop-span.invariant

pub loop-span-init : goal.loop-span-init
loop-span-init g c =
    rw c.into_iter-span-iterator.ensures.into_iter_gives
    (none_written (option_map (λ file. file.now) c.args.symbols) c.args.harts c.args.mode c.args.spans _)

pub returns-in_err-damaged-clause-begun : goal.returns-in_err-damaged-clause-begun
returns-in_err-damaged-clause-begun g c =
    next_begun (option_map (λ file. file.now) c.args.symbols) c.args.harts c.args.mode c.args.spans c.next.new.self
    c.in-Some.span c.loop-span.damaged _ _ _
    (so_far g (goal.at.returns-in_err-damaged-clause-begun g c).In-Some) c.write_chosen.ensures.begun

pub loop-span-preserved : goal.loop-span-preserved
loop-span-preserved g c =
    let more = one_written (option_map (λ file. file.now) c.args.symbols) c.args.harts c.args.mode c.args.spans
    c.next.new.self c.in-Some.span c.loop-span.damaged _ _ _
    (so_far g (goal.at.loop-span-preserved g c).In-Some) c.in_ok-damaged.ensures.text in
    subst
    (λ damaged. HasWritten (option_map (λ file. file.now) c.args.symbols) c.args.harts c.args.mode c.args.spans
    c.next.new.self (c.loop-span.damaged || damaged)
    (g.W.Write.contents c.args.sink.now) (g.W.Write.contents c.write_chosen.new.sink))
    (sym c.in_ok-damaged.ensures.damaged) more
