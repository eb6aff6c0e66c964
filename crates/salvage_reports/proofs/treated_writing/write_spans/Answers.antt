-- One span more is written: by lemmas on the texts of spans, which no tactic finds.
use Rattle.std.proofs.Common.{◌≡◌, ◌+◌, ◌≤◌, ◌∷◌, ◌∙◌, arith, length, option_map, subst, sym, true}
use Rattle.frames.specs.Search.{is_chosen}
use Rattle.salvage_reports.proofs.SpanTexts.{HasWritten, next_begun, none_written, one_written}
use Rattle.salvage_reports.proofs.treated_writing.write_spans.Goals.{In-Some}
use Rattle.salvage_reports.proofs.treated_writing.write_spans.Goals as goal

module _ (g : _) (c : In-Some g) where
  -- What is written so far, before the span that came and the others.
  so_far : HasWritten c.args.treatments.form (is_chosen c.args.only) (option_map (λ file. file.now) c.args.symbols)
      c.args.treatments.mode c.args.treatments.treated.now c.args.spans (c.in-Some.span ∷ c.next.new.self)
      c.loop-span.place c.loop-span.passed (g.W.Write.contents c.args.sink.now) (g.W.Write.contents c.loop-span.sink)
  so_far =
      subst
      (λ left. HasWritten c.args.treatments.form (is_chosen c.args.only) (option_map (λ file. file.now) c.args.symbols)
      c.args.treatments.mode c.args.treatments.treated.now c.args.spans left c.loop-span.place c.loop-span.passed
      (g.W.Write.contents c.args.sink.now) (g.W.Write.contents c.loop-span.sink))
      c.in-Some.ensures.steps c.loop-span.invariant.text

  few : c.loop-span.passed + length (c.in-Some.span ∷ c.next.new.self) ≤ length c.args.spans
  few =
      subst (λ left. c.loop-span.passed + length left ≤ length c.args.spans) c.in-Some.ensures.steps
      c.loop-span.invariant.few

pub returns-in_err-place-clause-begun : goal.returns-in_err-place-clause-begun
returns-in_err-place-clause-begun g c =
    let is : is_chosen c.args.only c.in-Some.span ≡ true = sym c.is_chosen.ensures ∙ c.if-is_chosen.true in
    next_begun c.args.treatments.form (is_chosen c.args.only) (option_map (λ file. file.now) c.args.symbols)
    c.args.treatments.mode c.args.treatments.treated.now c.args.spans c.next.new.self c.in-Some.span c.loop-span.place
    c.loop-span.passed _ _ (so_far g (goal.at.returns-in_err-place-clause-begun g c).In-Some) is _
    c.write_span.ensures.begun

pub loop-span-preserved-then-is_chosen : goal.loop-span-preserved-then-is_chosen
loop-span-preserved-then-is_chosen g c =
    let is : is_chosen c.args.only c.in-Some.span ≡ true = sym c.is_chosen.ensures ∙ c.if-is_chosen.true in
    let after = (goal.at.loop-span-preserved-then-is_chosen g c).In-Some in
    let few = few g after in
    record {
      text = one_written c.args.treatments.form (is_chosen c.args.only) (option_map (λ file. file.now) c.args.symbols)
          c.args.treatments.mode c.args.treatments.treated.now c.args.spans c.next.new.self c.in-Some.span
          c.loop-span.place c.loop-span.passed _ _ (so_far g after) is _ _ c.in_ok-place.ensures.place
          c.in_ok-place.ensures.left c.in_ok-place.ensures.text;
      few = omega (arith, few);
    }

pub loop-span-init : goal.loop-span-init
loop-span-init g c =
    rw c.into_iter-span-iterator.ensures.into_iter_gives (record {
      text = none_written c.args.treatments.form (is_chosen c.args.only)
          (option_map (λ file. file.now) c.args.symbols) c.args.treatments.mode c.args.treatments.treated.now
          c.args.spans (g.W.Write.contents c.args.sink.now);
      few = omega arith;
    })
