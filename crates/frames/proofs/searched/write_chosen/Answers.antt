-- The line of a span that is chosen: the equation goes into the text, where no tactic puts it.
use Rattle.std.proofs.Common.{◌∙◌, [], option_map, sym, subst}
use Rattle.output.specs.Begun.{AppendsBeginning}
use Rattle.output.proofs.Beginnings.{begun_in_front}
use Rattle.frames.specs.Search.{span_line, spans_text}
use Rattle.frames.proofs.SpanTexts.{one_chosen}
use Rattle.frames.proofs.searched.write_chosen.Goals as goal

pub returns-then-is_chosen-clause-begun : goal.returns-then-is_chosen-clause-begun
returns-then-is_chosen-clause-begun g c =
    let old = g.W.Write.contents c.args.sink.now in
    let new = g.W.Write.contents c.write_span.new.sink in
    let symbols = option_map (λ file. file.now) c.args.symbols in
    let mode = c.args.mode in
    let span = c.args.span.now in
    subst (λ spans. AppendsBeginning (spans_text symbols mode spans) old new)
    (sym (one_chosen c.args.harts span (sym c.is_chosen.ensures ∙ c.if-is_chosen.true)))
    (begun_in_front (span_line symbols mode span) [] old new c.write_span.ensures.begun)
