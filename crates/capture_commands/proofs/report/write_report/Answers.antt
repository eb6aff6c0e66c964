-- The prover tries no chain of steps by itself: what each step found is handed to it, in order.
use Rattle.std.proofs.Common.{◌≡◌, ◌∙◌, Err, Ok, ap, arith, sym}
use Rattle.std.proofs.lemmas.Grind.{common_steps}
use Rattle.command_inputs.specs.declared.status.Status.TheVariants.{NotWhole, Whole}
use Rattle.comparing.specs.Explained.{names_in}
use Rattle.capture_commands.specs.Comparison.{comparison_end}
use Rattle.capture_commands.proofs.Reported.{ends_at_stop, ends_well}
use Rattle.capture_commands.proofs.report.write_report.Goals as goal

pub returns-in_err-ended-clause-printed : goal.returns-in_err-ended-clause-printed
returns-in_err-ended-clause-printed g c =
    let contents = g.O.Write.contents in
    let why = c.in_err-ended.field-0.0 in
    let is : c.from_residual-in_err-ended.result ≡ Err why = grind (arith, common_steps) in
    ends_at_stop c.args.how.now.before (names_in c.args.how.now) c.args.how.now.stop c.args.harts.now (contents c.args.out.now)
    (contents c.write_explained.new.sink)
    (contents c.flush.new.self) c.in-Ok.ensures.text c.flush.ensures.bytes why c.from_residual-in_err-ended.result is
    (sym c.ended.ensures.value ∙ c.in_err-ended.was)

pub returns-then-whole-clause-printed : goal.returns-then-whole-clause-printed
returns-then-whole-clause-printed g c =
    let contents = g.O.Write.contents in
    let u = c.in_ok-ended.field-0 in
    ends_well c.args.how.now.before (names_in c.args.how.now) c.args.how.now.stop c.args.harts.now (contents c.args.out.now)
    (contents c.write_explained.new.sink)
    (contents c.flush.new.self) c.in-Ok.ensures.text c.flush.ensures.bytes u c.in-Ok.whole Whole
    (sym c.ended.ensures.value ∙ c.in_ok-ended.was) c.in-Ok.ensures.whole (ap (comparison_end (Ok u)) c.if-whole.true)

pub returns-else-whole-clause-printed : goal.returns-else-whole-clause-printed
returns-else-whole-clause-printed g c =
    let contents = g.O.Write.contents in
    let u = c.in_ok-ended.field-0 in
    ends_well c.args.how.now.before (names_in c.args.how.now) c.args.how.now.stop c.args.harts.now (contents c.args.out.now)
    (contents c.write_explained.new.sink)
    (contents c.flush.new.self) c.in-Ok.ensures.text c.flush.ensures.bytes u c.in-Ok.whole NotWhole
    (sym c.ended.ensures.value ∙ c.in_ok-ended.was) c.in-Ok.ensures.whole (ap (comparison_end (Ok u)) c.if-whole.false)
