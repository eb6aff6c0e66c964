-- What comes first is before the spans: by lemmas on beginnings, which no tactic finds.
use Rattle.std.proofs.Common.{List, option_map, subst, ℕ}
use Rattle.std.specs.Io.KnownBytes.{Appends}
use Rattle.std.specs.Prelude.{OnOk}
use Rattle.output.specs.Begun.{AppendsBeginning}
use Rattle.output.proofs.Beginnings.{begun_behind, begun_in_front}
use Rattle.output.proofs.Items.{ok_behind}
use Rattle.frames.specs.Search.{is_chosen, mode_of}
use Rattle.frames.specs.Start.{spans_of}
use Rattle.frames.specs.declared.span.Span.{Span}
use Rattle.payload.specs.declared.mode.Mode.{Mode}
use Rattle.salvage_reports.specs.TreatedText.{front_text, spans_text}
use Rattle.salvage_reports.proofs.treated_writing.write_treated.Goals.{After-write_front}
use Rattle.salvage_reports.proofs.treated_writing.write_treated.Goals as goal

module _ (g : _) (c : After-write_front g) where
  abbrev front : List ℕ
  front = front_text c.args.form c.args.capture.header

  abbrev rest : Mode → List Span → List ℕ
  rest mode spans =
      spans_text c.args.form (is_chosen c.args.capture.only) (option_map (λ file. file.now) c.args.symbols) mode 0 spans
      c.args.capture.treated.now

  abbrev mode : Mode
  mode = mode_of c.args.capture.header

  abbrev spans : List Span
  spans = spans_of c.args.capture.header c.args.capture.bytes.now

pub returns-in_err-write_front-clause-begun : goal.returns-in_err-write_front-clause-begun
returns-in_err-write_front-clause-begun g c =
    let at = (goal.at.returns-in_err-write_front-clause-begun g c).After-write_front in
    begun_in_front (front g at) (rest g at (mode g at) (spans g at)) _ _ c.write_front.ensures.begun

pub returns-clause-text : goal.returns-clause-text
returns-clause-text g c =
    let at = (goal.at.returns-clause-text g c).After-write_front in
    let mid = g.W.Write.contents c.write_front.new.sink in
    let new = g.W.Write.contents c.write_spans.new.sink in
    ok_behind (front g at) (rest g at (mode g at) (spans g at)) (g.W.Write.contents c.args.sink.now) mid new
    c.write_spans.result c.in_ok-write_front.ensures.text
    (subst (λ spans. OnOk c.write_spans.result (Appends mid new (rest g at (mode g at) spans))) c.counted_spans-spans.ensures.value
    (subst (λ mode. OnOk c.write_spans.result (Appends mid new (rest g at mode c.counted_spans-spans.result)))
    c.mode_of.ensures c.write_spans.ensures.text))

pub returns-clause-begun : goal.returns-clause-begun
returns-clause-begun g c =
    let at = (goal.at.returns-clause-begun g c).After-write_front in
    let mid = g.W.Write.contents c.write_front.new.sink in
    let new = g.W.Write.contents c.write_spans.new.sink in
    begun_behind (front g at) (rest g at (mode g at) (spans g at)) (g.W.Write.contents c.args.sink.now) mid new
    c.in_ok-write_front.ensures.text
    (subst (λ spans. AppendsBeginning (rest g at (mode g at) spans) mid new) c.counted_spans-spans.ensures.value
    (subst (λ mode. AppendsBeginning (rest g at mode c.counted_spans-spans.result) mid new) c.mode_of.ensures
    c.write_spans.ensures.begun))
