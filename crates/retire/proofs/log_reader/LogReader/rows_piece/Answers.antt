-- What a piece of rows says of the log is named by hand.
use Rattle.std.proofs.Common.{◌∙◌, ap, take}
use Rattle.retire.proofs.ReaderLemmas.{rows-failing, rows-go}
use Rattle.retire.proofs.log_reader.LogReader.rows_piece.Goals as goal

pub returns-in-Err-clause-faults : goal.returns-in-Err-clause-faults
returns-in-Err-clause-faults g c = λ most seen h.
    rows-failing g.S.Source.given g.S.Source.left most seen c.args.self.now c.cut-cut.result c.min-rows.result
    c.split_at.result.0.now c.in-Err.fault h c.requires.rows c.cut-cut.ensures.splits
    (c.split_at.ensures.front ∙ ap (take c.cut-cut.result) c.deref.ensures.value) c.min-rows.ensures
    c.in-Err.ensures.faults

pub returns-clause-goes_on : goal.returns-clause-goes_on
returns-clause-goes_on g c = λ most seen h.
    rows-go g.S.Source.given g.S.Source.left most seen c.args.self.now c.cut-cut.result c.min-rows.result c.in-Ok.count
    c.split_at.result.0.now c.args.events.now.items c.read_rows.new.events.items c.drop_front.new.held
    c.drop_front.new.spare c.drop_front.result h c.requires.rows c.cut-cut.ensures.splits
    (c.split_at.ensures.front ∙ ap (take c.cut-cut.result) c.deref.ensures.value) c.min-rows.ensures
    c.in-Ok.ensures.reads c.in-Ok.ensures.short c.drop_front.ensures.held
