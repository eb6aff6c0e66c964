-- The line of the header is before those of the spans: by lemmas on beginnings, which no tactic finds.
use Rattle.std.proofs.Common.{ap₂, option_map, subst}
use Rattle.output.specs.Begun.{AppendsBeginning}
use Rattle.output.proofs.Beginnings.{begun_behind, begun_in_front}
use Rattle.frames.specs.Search.{chosen, mode_of, spans_text, start_line}
use Rattle.frames.specs.Start.{spans_of}
use Rattle.frames.proofs.searched.write_found.Goals as goal

pub returns-in_err-write_start-clause-begun : goal.returns-in_err-write_start-clause-begun
returns-in_err-write_start-clause-begun g c =
    begun_in_front (start_line c.args.header)
    (spans_text (option_map (λ file. file.now) c.args.symbols) (mode_of c.args.header)
    (chosen c.args.harts (spans_of c.args.header c.args.capture.now))) _ _ c.write_start.ensures.begun

pub returns-clause-begun : goal.returns-clause-begun
returns-clause-begun g c =
    let header = c.args.header in
    let text = spans_text (option_map (λ file. file.now) c.args.symbols) (mode_of header)
    (chosen c.args.harts (spans_of header c.args.capture.now)) in
    let begun = subst
    (λ text. AppendsBeginning text (g.W.Write.contents c.write_start.new.sink)
    (g.W.Write.contents c.write_spans.new.sink))
    (ap₂ (λ mode spans. spans_text (option_map (λ file. file.now) c.args.symbols) mode (chosen c.args.harts spans))
    c.mode_of.ensures c.spans_of.ensures)
    c.write_spans.ensures.begun in
    begun_behind (start_line header) text _ _ _ c.in_ok-write_start.ensures.text begun
