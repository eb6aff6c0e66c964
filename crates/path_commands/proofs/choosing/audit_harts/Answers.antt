-- What is asked for says which of both is meant: by lemmas, which no tactic finds.
use Rattle.std.proofs.Common.{false, true}
use Rattle.path_commands.proofs.Formats.{chosen_cut, chosen_printed}
use Rattle.path_commands.proofs.choosing.audit_harts.Goals as goal

pub returns-then-asked-clause-printed : goal.returns-then-asked-clause-printed
returns-then-asked-clause-printed g c =
    chosen_printed (g.F.Files.content c.args.files.now) c.args.asked.now c.args.harts true c.if-asked.true
    c.audit_unnumbered.result (g.O.Write.contents c.args.out.now) (g.O.Write.contents c.audit_unnumbered.new.out)
    c.audit_unnumbered.ensures.printed

pub returns-then-asked-clause-cut : goal.returns-then-asked-clause-cut
returns-then-asked-clause-cut g c =
    chosen_cut (g.F.Files.content c.args.files.now) c.args.asked.now c.args.harts true c.if-asked.true
    (g.O.Write.contents c.args.out.now) (g.O.Write.contents c.audit_unnumbered.new.out) c.audit_unnumbered.ensures.cut

pub returns-clause-printed : goal.returns-clause-printed
returns-clause-printed g c =
    chosen_printed (g.F.Files.content c.args.files.now) c.args.asked.now c.args.harts false c.if-asked.false
    c.audit_numbered.result (g.O.Write.contents c.args.out.now) (g.O.Write.contents c.audit_numbered.new.out)
    c.audit_numbered.ensures.printed

pub returns-clause-cut : goal.returns-clause-cut
returns-clause-cut g c =
    chosen_cut (g.F.Files.content c.args.files.now) c.args.asked.now c.args.harts false c.if-asked.false
    (g.O.Write.contents c.args.out.now) (g.O.Write.contents c.audit_numbered.new.out) c.audit_numbered.ensures.cut
