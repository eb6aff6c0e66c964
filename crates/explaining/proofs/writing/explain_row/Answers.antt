-- The clauses on logs hold of any log that has these events, by a lemma on what is at its rows.
use Rattle.std.proofs.Common.{option_map, subst}
use Rattle.std.proofs.lemmas.Result.{on_ok_weaker}
use Rattle.std.specs.Io.KnownBytes.{Appends}
use Rattle.output.specs.Begun.{AppendsBeginning}
use Rattle.explaining.proofs.RowLemmas.{explanation-of_row}
use Rattle.explaining.proofs.writing.explain_row.Goals as goal

pub returns-clause-text : goal.returns-clause-text
returns-clause-text g c = λ log at.
    on_ok_weaker c.write_event_line.result
    (subst (λ text. Appends (g.W.Write.contents c.args.sink.now) (g.W.Write.contents c.write_event_line.new.sink) text)
    (explanation-of_row (option_map (λ file. file.now) c.args.symbols) c.args.program.now log c.args.before
    c.args.event.now c.args.fault at))
    c.write_event_line.ensures.text

pub returns-clause-begun : goal.returns-clause-begun
returns-clause-begun g c = λ log at.
    subst (λ text. AppendsBeginning text (g.W.Write.contents c.args.sink.now)
    (g.W.Write.contents c.write_event_line.new.sink))
    (explanation-of_row (option_map (λ file. file.now) c.args.symbols) c.args.program.now log c.args.before
    c.args.event.now c.args.fault at)
    c.write_event_line.ensures.begun
