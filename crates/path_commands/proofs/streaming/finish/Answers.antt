-- How it ends is decided by the count of lines that are skipped: by lemmas on its text.
use Rattle.std.proofs.Common.{◌∙◌, None, Ok, Err, ap, arith, inl, inr, refl}
use Rattle.command_inputs.specs.declared.fault.Fault.TheVariants as fault
use Rattle.command_inputs.specs.declared.status.Status.TheVariants.{Whole}
use Rattle.path_commands.proofs.StreamedLines.{finished, none_skipped, some_skipped}
use Rattle.path_commands.specs.Capturing.{stream_end}
use Rattle.path_commands.specs.declared.line_reason.LineReason.TheVariants.{Skipped}
use Rattle.path_commands.proofs.streaming.finish.Goals as goal

pub returns-in-Err : goal.returns-in-Err
returns-in-Err g c = λ given old has. inr (c.in-Err.why, refl, c.in-Err.ensures given old has)

pub returns-then-count-eq0 : goal.returns-then-count-eq0
returns-then-count-eq0 g c = λ given old has.
    let asked = c.args.asked.now in
    inl (finished asked c.args.settings.now given c.pass_held.new.taken (Ok Whole) old
    (g.O.Write.contents c.pass_held.new.out) (c.in-Ok.ensures given old has)
    (none_skipped asked.lines c.skipped-count.result c.if-count-eq0.true
    ∙ ap (stream_end asked.lines None) c.skipped-count.ensures))

pub returns : goal.returns
returns g c = λ given old has.
    let asked = c.args.asked.now in
    inl (finished asked c.args.settings.now given c.pass_held.new.taken
    (Err (fault.Own (Skipped asked.lines c.skipped-count.result))) old (g.O.Write.contents c.pass_held.new.out)
    (c.in-Ok.ensures given old has)
    (some_skipped asked.lines c.skipped-count.result (omega (arith, c.if-count-eq0.false))
    ∙ ap (stream_end asked.lines None) c.skipped-count.ensures))
