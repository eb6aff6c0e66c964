-- What the first piece with a record says of the log is named by hand.
use Rattle.std.proofs.Common.{◌∙◌, ap, take}
use Rattle.retire.proofs.ReaderLemmas.{header-failed, header-goes, header-passed}
use Rattle.retire.proofs.log_reader.LogReader.header_piece.Goals as goal

pub returns-in-Err-clause-faults : goal.returns-in-Err-clause-faults
returns-in-Err-clause-faults g c = λ most seen h.
    header-failed g.S.Source.given g.S.Source.left most seen c.args.self.now c.cut-cut.result
    c.split_at.result.0.now c.in-Err.fault h c.requires.header c.cut-cut.ensures.splits
    (c.split_at.ensures.front ∙ ap (take c.cut-cut.result) c.deref.ensures.value) c.in-Err.ensures.faults

pub returns-in_default-clause-goes_on : goal.returns-in_default-clause-goes_on
returns-in_default-clause-goes_on g c = λ most seen h.
    header-passed g.S.Source.given g.S.Source.left most seen c.args.self.now c.cut-cut.result
    c.split_at.result.0.now c.args.events.now.items c.read_first.new.events.items c.drop_front.new.held
    c.drop_front.new.spare c.drop_front.result c.in-Ok.found h c.requires.header c.cut-cut.ensures.splits
    (c.split_at.ensures.front ∙ ap (take c.cut-cut.result) c.deref.ensures.value) c.in_default.is
    c.in-Ok.ensures.reads c.drop_front.ensures.held

pub returns-clause-goes_on : goal.returns-clause-goes_on
returns-clause-goes_on g c = λ most seen h.
    header-goes g.S.Source.given g.S.Source.left most seen c.args.self.now c.cut-cut.result c.in-Some.rows
    c.split_at.result.0.now c.args.events.now.items c.read_first.new.events.items c.drop_front-2.new.held
    c.drop_front-2.new.spare c.drop_front-2.result c.in-Ok.found h c.requires.header c.cut-cut.ensures.splits
    (c.split_at.ensures.front ∙ ap (take c.cut-cut.result) c.deref.ensures.value) c.in-Some.is c.in-Ok.ensures.reads
    c.in-Ok.ensures.short c.drop_front-2.ensures.held
