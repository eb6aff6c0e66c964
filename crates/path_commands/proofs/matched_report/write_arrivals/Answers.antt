-- The rows are written one after the other: by lemmas on parts of a text, which no tactic finds.
use Rattle.std.proofs.Common.{◌<◌, ◌≤◌, ◌+◌, ap, arith, drop, length, subst, sym}
use Rattle.std.proofs.lemmas.List.{length-drop, take_rest}
use Rattle.output.proofs.FieldParts.{HasWritten, part_none}
use Rattle.path_commands.proofs.RunLines.{lines_begun, rows_more, run_begun, then_all, then_begun}
use Rattle.path_commands.specs.MatchedRows.{arrival_rows}
use Rattle.path_commands.proofs.matched_report.write_arrivals.Goals as goal

pub loop-run-init : goal.loop-run-init
loop-run-init g c = (
  part_none (arrival_rows c.args.format c.args.runs.now c.args.lines.now) (g.O.Write.contents c.args.out.now),
  omega arith,
)

pub loop-run-preserved : goal.loop-run-preserved
loop-run-preserved g c =
    let at = c.loop-run.run-index in
    let within : at < length c.args.runs.now = omega arith in
    let few = c.loop-run.invariant.1 in
    let left = c.loop-run.left.now in
    let count = c.count_before-count.result in
    let less = length-drop count left in
    let same = ap length (take_rest left count) in (
      subst
          (λ l. HasWritten (arrival_rows c.args.format c.args.runs.now c.args.lines.now)
          (arrival_rows c.args.format (drop (at + 1) c.args.runs.now) l) (g.O.Write.contents c.args.out.now)
          (g.O.Write.contents c.write_run.new.out)) (sym (take_rest left count))
          (rows_more c.args.format c.args.runs.now c.args.lines.now left at (g.O.Write.contents c.args.out.now)
          (g.O.Write.contents c.loop-run.out) c.loop-run.invariant.0 _ within count
          c.count_before-count.ensures.value (g.O.Write.contents c.write_lines.new.out)
          c.in_ok-write_lines.ensures.text (g.O.Write.contents c.write_run.new.out) c.in_ok-write_run.ensures.text),
      omega (arith, few, less, same),
    )

pub returns-in_err-write_lines-clause-begun : goal.returns-in_err-write_lines-clause-begun
returns-in_err-write_lines-clause-begun g c =
    let at = c.loop-run.run-index in
    let within : at < length c.args.runs.now = omega arith in
    lines_begun c.args.format c.args.runs.now c.args.lines.now c.loop-run.left.now at (g.O.Write.contents c.args.out.now)
    (g.O.Write.contents c.loop-run.out) c.loop-run.invariant.0 _ within c.count_before-count.result
    c.count_before-count.ensures.value (g.O.Write.contents c.write_lines.new.out) c.write_lines.ensures.begun

pub returns-in_err-write_run-clause-begun : goal.returns-in_err-write_run-clause-begun
returns-in_err-write_run-clause-begun g c =
    let at = c.loop-run.run-index in
    let within : at < length c.args.runs.now = omega arith in
    run_begun c.args.format c.args.runs.now c.args.lines.now c.loop-run.left.now at (g.O.Write.contents c.args.out.now)
    (g.O.Write.contents c.loop-run.out) c.loop-run.invariant.0 _ within c.count_before-count.result
    c.count_before-count.ensures.value (g.O.Write.contents c.write_lines.new.out) c.in_ok-write_lines.ensures.text
    (g.O.Write.contents c.write_run.new.out) c.write_run.ensures.begun

pub returns-clause-text : goal.returns-clause-text
returns-clause-text g c =
    let past : length c.args.runs.now ≤ c.loop-run.run-index = omega arith in
    then_all c.args.format c.args.runs.now c.args.lines.now c.loop-run.left.now c.loop-run.run-index
    (g.O.Write.contents c.args.out.now) (g.O.Write.contents c.loop-run.out) past c.loop-run.invariant.0
    (g.O.Write.contents c.write_lines-2.new.out) c.write_lines-2.result c.write_lines-2.ensures.text

pub returns-clause-begun : goal.returns-clause-begun
returns-clause-begun g c =
    let past : length c.args.runs.now ≤ c.loop-run.run-index = omega arith in
    then_begun c.args.format c.args.runs.now c.args.lines.now c.loop-run.left.now c.loop-run.run-index
    (g.O.Write.contents c.args.out.now) (g.O.Write.contents c.loop-run.out) past c.loop-run.invariant.0
    (g.O.Write.contents c.write_lines-2.new.out) c.write_lines-2.ensures.begun
