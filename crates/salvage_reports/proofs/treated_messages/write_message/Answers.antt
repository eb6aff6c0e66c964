-- Lines of this form say the rows as the form does: the form that is asked for is put in by hand.
use Rattle.std.proofs.Common.{OnOk, option_map, subst, sym}
use Rattle.std.specs.Io.KnownBytes.{Appends}
use Rattle.output.specs.Begun.{AppendsBeginning}
use Rattle.listing.specs.SettledRows.{shows_rows}
use Rattle.listing.specs.declared.form.Form.{Form}
use Rattle.salvage_reports.specs.Lines.{treated_line}
use Rattle.salvage_reports.specs.TreatedText.{message_text}
use Rattle.salvage_reports.proofs.treated_messages.write_message.Goals as goal

pub returns-in-Lines-clause-text : goal.returns-in-Lines-clause-text
returns-in-Lines-clause-text g c =
    let old = g.W.Write.contents c.args.sink.now in
    let new = g.W.Write.contents c.write_line.new.sink in
    let file = option_map (λ file. file.now) c.args.symbols in
    let one = c.args.one in
    subst (λ (form : Form). OnOk c.write_line.result (Appends old new
    (message_text form file one.mode one.at one.offset one.message.now one.treated.now))) (sym c.in-Lines.is)
    (subst (λ (form : Form). OnOk c.write_line.result (Appends old new
    (treated_line (shows_rows form) file one.mode one.offset one.message.now one.treated.now))) c.in-Lines.is
    c.write_line.ensures.text)

pub returns-in-Lines-clause-begun : goal.returns-in-Lines-clause-begun
returns-in-Lines-clause-begun g c =
    let old = g.W.Write.contents c.args.sink.now in
    let new = g.W.Write.contents c.write_line.new.sink in
    let file = option_map (λ file. file.now) c.args.symbols in
    let one = c.args.one in
    subst (λ (form : Form). AppendsBeginning
    (message_text form file one.mode one.at one.offset one.message.now one.treated.now) old new) (sym c.in-Lines.is)
    (subst (λ (form : Form). AppendsBeginning
    (treated_line (shows_rows form) file one.mode one.offset one.message.now one.treated.now) old new) c.in-Lines.is
    c.write_line.ensures.begun)
