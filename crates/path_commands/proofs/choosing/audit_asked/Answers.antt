-- What goes together is looked at, and then it is chosen: by lemmas, which no tactic finds.
use Rattle.std.proofs.Common.{◌≡◌, ◌∙◌, Err, Ok, false, refl, sym, true}
use Rattle.path_commands.proofs.Formats.{asked_cut, asked_printed, ends_live, live_refused}
use Rattle.path_commands.proofs.choosing.audit_asked.Goals as goal

pub returns-in-Err-clause-early : goal.returns-in-Err-clause-early
returns-in-Err-clause-early g c =
    ends_live c.args.asked.now (Err c.in-Err.why) (Err c.in-Err.why) (sym c.in-Err.is ∙ c.check_live.ensures) refl

pub returns-in-Err-clause-printed : goal.returns-in-Err-clause-printed
returns-in-Err-clause-printed g c =
    live_refused (g.F.Files.content c.args.files.now) c.args.asked.now c.args.harts c.in-Err.why (Err c.in-Err.why)
    (g.O.Write.contents c.args.out.now) (sym c.in-Err.is ∙ c.check_live.ensures) refl

pub returns-then-asked-clause-early : goal.returns-then-asked-clause-early
returns-then-asked-clause-early g c =
    ends_live c.args.asked.now c.audit_live.result (Ok tt) (sym c.in-Ok.is ∙ c.check_live.ensures) tt

pub returns-then-asked-clause-printed : goal.returns-then-asked-clause-printed
returns-then-asked-clause-printed g c =
    asked_printed (g.F.Files.content c.args.files.now) c.args.asked.now c.args.harts
    (sym c.in-Ok.is ∙ c.check_live.ensures) true c.if-asked.true c.audit_live.result (g.O.Write.contents c.args.out.now)
    (g.O.Write.contents c.audit_live.new.out) c.audit_live.ensures.printed

pub returns-then-asked-clause-cut : goal.returns-then-asked-clause-cut
returns-then-asked-clause-cut g c =
    asked_cut (g.F.Files.content c.args.files.now) c.args.asked.now c.args.harts
    (sym c.in-Ok.is ∙ c.check_live.ensures) true c.if-asked.true (g.O.Write.contents c.args.out.now)
    (g.O.Write.contents c.audit_live.new.out) c.audit_live.ensures.cut

pub returns-else-asked-clause-early : goal.returns-else-asked-clause-early
returns-else-asked-clause-early g c =
    ends_live c.args.asked.now c.audit_harts.result (Ok tt) (sym c.in-Ok.is ∙ c.check_live.ensures) tt

pub returns-else-asked-clause-printed : goal.returns-else-asked-clause-printed
returns-else-asked-clause-printed g c =
    asked_printed (g.F.Files.content c.args.files.now) c.args.asked.now c.args.harts
    (sym c.in-Ok.is ∙ c.check_live.ensures) false c.if-asked.false c.audit_harts.result
    (g.O.Write.contents c.args.out.now) (g.O.Write.contents c.audit_harts.new.out) c.audit_harts.ensures.printed

pub returns-else-asked-clause-cut : goal.returns-else-asked-clause-cut
returns-else-asked-clause-cut g c =
    asked_cut (g.F.Files.content c.args.files.now) c.args.asked.now c.args.harts
    (sym c.in-Ok.is ∙ c.check_live.ensures) false c.if-asked.false (g.O.Write.contents c.args.out.now)
    (g.O.Write.contents c.audit_harts.new.out) c.audit_harts.ensures.cut
