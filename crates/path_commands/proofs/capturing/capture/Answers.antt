-- The steps of `capture` follow one another: by lemmas on what each found, which no tactic finds.
use Rattle.std.proofs.Common.{◌≡◌, ◌∙◌, Err, arith, sym, true, false}
use Rattle.std.proofs.lemmas.Grind.{common_steps}
use Rattle.path_commands.proofs.CaptureSteps.{asked_refused, begun_streamed, early_ends, early_none, lines_cut, lines_printed}
use Rattle.path_commands.proofs.capturing.capture.Goals as goal

pub returns-in_err-settings-clause-early : goal.returns-in_err-settings-clause-early
returns-in_err-settings-clause-early g c =
    let why = c.in_err-settings.field-0.0 in
    let is : c.from_residual.result ≡ Err why = grind (arith, common_steps) in
    early_ends c.args.asked.now why c.from_residual.result (sym c.in_err-settings.was ∙ c.settings_of.ensures.value) is

pub returns-in_err-settings-clause-printed : goal.returns-in_err-settings-clause-printed
returns-in_err-settings-clause-printed g c =
    let why = c.in_err-settings.field-0.0 in
    let is : c.from_residual.result ≡ Err why = grind (arith, common_steps) in
    asked_refused (g.F.Files.content c.args.files.now) c.args.asked.now why c.from_residual.result
    (g.O.Write.contents c.args.out.now) (sym c.in_err-settings.was ∙ c.settings_of.ensures.value) is

pub returns-then-is_known-clause-early : goal.returns-then-is_known-clause-early
returns-then-is_known-clause-early g c =
    early_none c.args.asked.now c.in_ok-settings.settings c.write_stream.result
    (sym c.in_ok-settings.was ∙ c.settings_of.ensures.value)

pub returns-then-is_known-clause-printed : goal.returns-then-is_known-clause-printed
returns-then-is_known-clause-printed g c =
    lines_printed (g.F.Files.content c.args.files.now) c.args.asked.now c.in_ok-settings.settings
    (sym c.in_ok-settings.was ∙ c.settings_of.ensures.value) true (sym c.is_known.ensures ∙ c.if-is_known.true)
    c.write_stream.result (g.O.Write.contents c.args.out.now) (g.O.Write.contents c.write_stream.new.out)
    c.write_stream.ensures.printed

pub returns-then-is_known-clause-cut : goal.returns-then-is_known-clause-cut
returns-then-is_known-clause-cut g c =
    lines_cut (g.F.Files.content c.args.files.now) c.args.asked.now c.in_ok-settings.settings
    (sym c.in_ok-settings.was ∙ c.settings_of.ensures.value) true (sym c.is_known.ensures ∙ c.if-is_known.true)
    (g.O.Write.contents c.args.out.now) (g.O.Write.contents c.write_stream.new.out) c.write_stream.ensures.cut

pub returns-then-is_known-clause-begun : goal.returns-then-is_known-clause-begun
returns-then-is_known-clause-begun g c = λ memory.
    let is = sym c.is_known.ensures ∙ c.if-is_known.true in
    let old = g.O.Write.contents c.args.out.now in
    let new = g.O.Write.contents c.write_stream.new.out in
    begun_streamed (g.F.Files.content c.args.files.now) c.args.asked.now old new is
    (lines_cut (g.F.Files.content c.args.files.now) c.args.asked.now c.in_ok-settings.settings
    (sym c.in_ok-settings.was ∙ c.settings_of.ensures.value) true is old new c.write_stream.ensures.cut)

pub returns-else-is_known-clause-early : goal.returns-else-is_known-clause-early
returns-else-is_known-clause-early g c =
    early_none c.args.asked.now c.in_ok-settings.settings c.write_held.result
    (sym c.in_ok-settings.was ∙ c.settings_of.ensures.value)

pub returns-else-is_known-clause-printed : goal.returns-else-is_known-clause-printed
returns-else-is_known-clause-printed g c =
    lines_printed (g.F.Files.content c.args.files.now) c.args.asked.now c.in_ok-settings.settings
    (sym c.in_ok-settings.was ∙ c.settings_of.ensures.value) false (sym c.is_known.ensures ∙ c.if-is_known.false)
    c.write_held.result (g.O.Write.contents c.args.out.now) (g.O.Write.contents c.write_held.new.out)
    c.write_held.ensures.printed

pub returns-else-is_known-clause-cut : goal.returns-else-is_known-clause-cut
returns-else-is_known-clause-cut g c =
    lines_cut (g.F.Files.content c.args.files.now) c.args.asked.now c.in_ok-settings.settings
    (sym c.in_ok-settings.was ∙ c.settings_of.ensures.value) false (sym c.is_known.ensures ∙ c.if-is_known.false)
    (g.O.Write.contents c.args.out.now) (g.O.Write.contents c.write_held.new.out) c.write_held.ensures.cut
