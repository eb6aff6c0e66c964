-- Which span it is is an equation, which goes into the clauses, where no tactic puts it.
use Rattle.std.proofs.Common.{◌≡◌, IfOk, option_map, sym, subst}
use Rattle.output.specs.Begun.{AppendsBeginning}
use Rattle.frames.specs.Search.{is_damaged, span_line}
use Rattle.frames.proofs.searched.write_span.Goals as goal

pub returns-in-Frame-clause-damaged : goal.returns-in-Frame-clause-damaged
returns-in-Frame-clause-damaged g c =
    subst (λ span. IfOk c.write_message_line.result (λ damaged. damaged ≡ is_damaged span)) (sym c.in-Frame.is)
    c.write_message_line.ensures.bad

pub returns-in-Frame-clause-begun : goal.returns-in-Frame-clause-begun
returns-in-Frame-clause-begun g c =
    subst
    (λ span. AppendsBeginning (span_line (option_map (λ file. file.now) c.args.symbols) c.args.mode span)
    (g.W.Write.contents c.args.sink.now)
    (g.W.Write.contents c.write_message_line.new.sink)) (sym c.in-Frame.is) c.write_message_line.ensures.begun
