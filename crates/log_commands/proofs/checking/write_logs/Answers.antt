-- The prover does not part the logs at the loop's place: the lemmas on one log more are handed to it.
use Rattle.std.proofs.Common.{◌≡◌, ◌∙◌, ◌<◌, ◌≤◌, ap, arith, length, sym}
use Rattle.std.proofs.lemmas.Grind.{common_steps}
use Rattle.std.specs.Prelude.{if◌then◌else◌}
use Rattle.output.proofs.Beginnings.{whole_begun}
use Rattle.command_inputs.specs.declared.status.Status.TheVariants.{Refused}
use Rattle.log_commands.specs.steps.Checked.{all_lines, input_in}
use Rattle.log_commands.proofs.CheckedLogs.{all_written, log_begun, log_more, status_next}
use Rattle.log_commands.proofs.checking.write_logs.Goals as goal
use Rattle.log_commands.proofs.checking.write_logs.Goals.{then-is_err, else-is_err}

pub returns-in_err-write_lines-clause-begun : goal.returns-in_err-write_lines-clause-begun
returns-in_err-write_lines-clause-begun g c =
    let within : c.loop-i.i < length c.args.verdicts.now = grind (arith, common_steps) in
    log_begun c.args.explain (input_in c.args.input.now) c.args.paths.now c.args.verdicts.now c.loop-i.i _ _ c.requires within
    (g.O.Write.contents c.args.out.now) (g.O.Write.contents c.loop-i.out) (g.O.Write.contents c.write_lines.new.out)
    c.loop-i.invariant.text c.write_lines.ensures.begun

pub loop-i-preserved : goal.loop-i-preserved
loop-i-preserved g c =
    let within : c.loop-i.i < length c.args.verdicts.now = grind (arith, common_steps) in
    let status = c.loop-i.status in
    let now_is : c.if-is_err.status ≡ (if c.is_err.result then Refused else status) = elim c.if-is_err.branch [
      | then-is_err w ↦ w.status-is ∙ ap (λ b. if b then Refused else status) (sym w.if-is_err.true)
      | else-is_err w ↦ w.status-is ∙ ap (λ b. if b then Refused else status) (sym w.if-is_err.false)
    ] in record {
      text = log_more c.args.explain (input_in c.args.input.now) c.args.paths.now c.args.verdicts.now c.loop-i.i _ _ c.requires
          within (g.O.Write.contents c.args.out.now) (g.O.Write.contents c.loop-i.out)
          (g.O.Write.contents c.write_lines.new.out) c.loop-i.invariant.text c.in_ok-write_lines.ensures.text;
      ended = status_next c.args.verdicts.now c.loop-i.i _ status c.if-is_err.status c.is_err.result within
          c.loop-i.invariant.ended c.is_err.ensures.value now_is;
    }

pub returns-clause-text : goal.returns-clause-text
returns-clause-text g c =
    let past : length c.args.verdicts.now ≤ c.loop-i.i = grind (arith, common_steps) in
    all_written c.args.explain (input_in c.args.input.now) c.args.paths.now c.args.verdicts.now c.loop-i.i
    (g.O.Write.contents c.args.out.now) (g.O.Write.contents c.loop-i.out) c.requires past c.loop-i.invariant.text

pub returns-clause-begun : goal.returns-clause-begun
returns-clause-begun g c =
    let past : length c.args.verdicts.now ≤ c.loop-i.i = grind (arith, common_steps) in
    let old = g.O.Write.contents c.args.out.now in
    let new = g.O.Write.contents c.loop-i.out in
    whole_begun (all_lines c.args.explain (input_in c.args.input.now) c.args.paths.now c.args.verdicts.now) old new
    (all_written c.args.explain (input_in c.args.input.now) c.args.paths.now c.args.verdicts.now c.loop-i.i old new c.requires
    past c.loop-i.invariant.text)
