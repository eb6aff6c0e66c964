-- Which span it is, and which treatment is at the place, are equations, which go into the clauses by hand.
use Rattle.std.proofs.Common.{◌≡◌, ◌+◌, ◌<◌, ◌∙◌, ◌∷◌, List, ap, drop, drop-cons, length, option_map, subst, suc, sym, ℕ}
use Rattle.std.proofs.lemmas.Bool.{ltb-true}
use Rattle.std.specs.Io.KnownBytes.{Appends}
use Rattle.output.specs.Begun.{AppendsBeginning}
use Rattle.frames.specs.declared.span.Span.{Span}
use Rattle.frames.specs.declared.span.Span.TheVariants.{Frame}
use Rattle.salvage_reports.specs.declared.hart_rows.TreatedInRows.{TreatedInRows}
use Rattle.salvage_reports.specs.TreatedText.{message_text, span_text}
use Rattle.salvage_reports.proofs.treated_writing.write_span.Goals.{In-Some}
use Rattle.salvage_reports.proofs.treated_writing.write_span.Goals as goal

module _ (g : _) (c : In-Some g) where
  abbrev all : List TreatedInRows
  all = c.args.treatments.treated.now

  abbrev text : Span → List TreatedInRows → List ℕ
  text =
      span_text c.args.treatments.form (option_map (λ file. file.now) c.args.symbols) c.args.treatments.mode
      (c.args.place + c.args.passed)

  -- The treatment at the place is the first of those that are left.
  split : drop c.args.place all ≡ c.in-Some.treated.now ∷ drop (suc c.args.place) all
  split =
      let found = c.in-Some.ensures.lookup in
      let within : c.args.place < length all = ltb-true c.args.place (length all) (sym found.0) in
      drop-cons all c.args.place c.in-Some.treated.now within
      ∙ ap (λ one. one ∷ drop (suc c.args.place) all) (sym found.1)

  -- The text of the span is that of its message.
  same : message_text c.args.treatments.form (option_map (λ file. file.now) c.args.symbols) c.args.treatments.mode
      (c.args.place + c.args.passed) c.in-Frame.offset c.in-Frame.message c.in-Some.treated.now
      ≡ text c.args.span.now (drop c.args.place all)
  same =
      sym (ap (λ span. text span (drop c.args.place all)) c.in-Frame.is
      ∙ ap (text (Frame c.in-Frame.offset c.in-Frame.message)) split)

pub returns-in_err-write_message-in-Frame-clause-begun : goal.returns-in_err-write_message-in-Frame-clause-begun
returns-in_err-write_message-in-Frame-clause-begun g c =
    subst
    (λ l. AppendsBeginning l (g.W.Write.contents c.args.sink.now) (g.W.Write.contents c.write_message.new.sink))
    (same g (goal.at.returns-in_err-write_message-in-Frame-clause-begun g c).In-Some) c.write_message.ensures.begun

pub returns-in_ok-write_message-in-Frame-clause-text : goal.returns-in_ok-write_message-in-Frame-clause-text
returns-in_ok-write_message-in-Frame-clause-text g c =
    subst (Appends (g.W.Write.contents c.args.sink.now) (g.W.Write.contents c.write_message.new.sink))
    (same g (goal.at.returns-in_ok-write_message-in-Frame-clause-text g c).In-Some)
    c.in_ok-write_message-in-Frame.ensures.text

pub returns-in_ok-write_message-in-Frame-clause-begun : goal.returns-in_ok-write_message-in-Frame-clause-begun
returns-in_ok-write_message-in-Frame-clause-begun g c =
    subst
    (λ l. AppendsBeginning l (g.W.Write.contents c.args.sink.now) (g.W.Write.contents c.write_message.new.sink))
    (same g (goal.at.returns-in_ok-write_message-in-Frame-clause-begun g c).In-Some) c.write_message.ensures.begun

pub returns-in_ok-write_run-in-Bytes-clause-text : goal.returns-in_ok-write_run-in-Bytes-clause-text
returns-in_ok-write_run-in-Bytes-clause-text g c =
    subst (Appends (g.W.Write.contents c.args.sink.now) (g.W.Write.contents c.write_run.new.sink))
    (sym (ap (λ span. span_text c.args.treatments.form (option_map (λ file. file.now) c.args.symbols)
    c.args.treatments.mode (c.args.place + c.args.passed) span (drop c.args.place c.args.treatments.treated.now))
    c.in-Bytes.is)) c.in_ok-write_run-in-Bytes.ensures.text
