-- The line of a message that is selected: the equation goes into the text, where no tactic puts it.
use Rattle.std.proofs.Common.{◌∙◌, [], option_map, sym, subst}
use Rattle.output.specs.Begun.{AppendsBeginning}
use Rattle.output.proofs.Beginnings.{begun_in_front}
use Rattle.message.proofs.Selecting.{one_selected}
use Rattle.captures.specs.Dump.{dump_line, dump_text}
use Rattle.captures.proofs.dumping.write_selected_line.Goals as goal

pub returns-then-selects-clause-begun : goal.returns-then-selects-clause-begun
returns-then-selects-clause-begun g c =
    let old = g.W.Write.contents c.args.sink.now in
    let new = g.W.Write.contents c.write_message_line.new.sink in
    let symbols = option_map (λ file. file.now) c.args.symbols in
    let mode = c.args.mode in
    let message = c.args.message.now in
    subst (λ messages. AppendsBeginning (dump_text symbols mode messages) old new)
    (sym (one_selected c.args.harts message (sym c.selects.ensures ∙ c.if-selects.true)))
    (begun_in_front (dump_line symbols mode message) [] old new c.write_message_line.ensures.begun)
