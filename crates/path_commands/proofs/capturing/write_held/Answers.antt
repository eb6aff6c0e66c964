-- The lines are read, and then written: by lemmas on what each step found, which no tactic finds.
use Rattle.std.proofs.Common.{◌≡◌, Err, arith, subst}
use Rattle.std.proofs.lemmas.Grind.{common_steps}
use Rattle.std.specs.Prelude.{⊤}
use Rattle.command_inputs.specs.Begun.{IsCutOf}
use Rattle.command_inputs.specs.Printed.{PrintsUnlessDenied}
use Rattle.path_commands.proofs.CaptureSteps.{lines_lacked, text_cut, text_printed}
use Rattle.path_commands.specs.Capturing.{WritesCapture}
use Rattle.path_commands.proofs.capturing.write_held.Goals as goal

pub returns-in_err-text-clause-printed : goal.returns-in_err-text-clause-printed
returns-in_err-text-clause-printed g c =
    let why = c.in_err-text.field-0.0 in
    let is : c.from_residual.result ≡ Err why = grind (arith, common_steps) in
    lines_lacked (g.F.Files.content c.args.files.now) c.args.asked.now c.args.settings why c.from_residual.result
    (g.O.Write.contents c.args.out.now) c.in_err-text.ensures.lacked is

pub returns-clause-printed : goal.returns-clause-printed
returns-clause-printed g c =
    let asked = c.args.asked.now in
    let settings = c.args.settings in
    let old = g.O.Write.contents c.args.out.now in
    let new = g.O.Write.contents c.write_lines.new.out in
    text_printed (g.F.Files.content c.args.files.now) asked settings c.in_ok-text.text.items c.in_ok-text.ensures.held
    c.write_lines.result old new
    (subst (λ text. PrintsUnlessDenied (WritesCapture asked.lines settings text) ⊤ c.write_lines.result old new)
    c.as_slice.ensures.value c.write_lines.ensures.printed)

pub returns-clause-cut : goal.returns-clause-cut
returns-clause-cut g c =
    let asked = c.args.asked.now in
    let settings = c.args.settings in
    let old = g.O.Write.contents c.args.out.now in
    let new = g.O.Write.contents c.write_lines.new.out in
    text_cut (g.F.Files.content c.args.files.now) asked settings c.in_ok-text.text.items c.in_ok-text.ensures.held old
    new
    (subst (λ text. IsCutOf (WritesCapture asked.lines settings text) old new) c.as_slice.ensures.value
    c.write_lines.ensures.cut)
