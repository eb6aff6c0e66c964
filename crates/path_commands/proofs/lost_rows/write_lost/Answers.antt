-- The rows are written one after the other: by lemmas on parts of a text, which no tactic finds.
use Rattle.std.proofs.Common.{refl, subst}
use Rattle.output.proofs.Beginnings.{whole_begun}
use Rattle.output.proofs.FieldParts.{HasWritten, part_all, part_begun, part_more, part_none}
use Rattle.path_commands.specs.Rows.{run_row, run_rows}
use Rattle.path_commands.proofs.lost_rows.write_lost.Goals as goal

pub loop-run-init : goal.loop-run-init
loop-run-init g c = part_none (run_rows c.args.format c.args.hart c.args.runs) (g.O.Write.contents c.args.out.now)

pub loop-run-preserved : goal.loop-run-preserved
loop-run-preserved g c =
    let hart = c.args.hart in
    let old = g.O.Write.contents c.args.out.now in
    let mid = g.O.Write.contents c.loop-run.out in
    let new = g.O.Write.contents c.write_text.new.out in
    let whole = run_rows c.args.format hart c.args.runs in
    part_more whole (run_row c.args.format hart c.in-Some.run') (run_rows c.args.format hart c.next.new.self) old mid
    new
    (subst (λ runs. HasWritten whole (run_rows c.args.format hart runs) old mid) c.in-Some.ensures.next
    c.loop-run.invariant) c.in_ok-write_text.ensures.whole

pub returns-in_err-write_text-clause-begun : goal.returns-in_err-write_text-clause-begun
returns-in_err-write_text-clause-begun g c =
    let hart = c.args.hart in
    let old = g.O.Write.contents c.args.out.now in
    let mid = g.O.Write.contents c.loop-run.out in
    let new = g.O.Write.contents c.write_text.new.out in
    let whole = run_rows c.args.format hart c.args.runs in
    part_begun whole (run_row c.args.format hart c.in-Some.run') (run_rows c.args.format hart c.next.new.self) old mid
    new
    (subst (λ runs. HasWritten whole (run_rows c.args.format hart runs) old mid) c.in-Some.ensures.next
    c.loop-run.invariant) c.write_text.ensures.begun

pub returns-clause-text : goal.returns-clause-text
returns-clause-text g c =
    let hart = c.args.hart in
    let old = g.O.Write.contents c.args.out.now in
    let mid = g.O.Write.contents c.loop-run.out in
    let whole = run_rows c.args.format hart c.args.runs in
    part_all whole old mid
    (subst (λ runs. HasWritten whole (run_rows c.args.format hart runs) old mid) (c.in_default.ensures.end refl)
    c.loop-run.invariant)

pub returns-clause-begun : goal.returns-clause-begun
returns-clause-begun g c =
    whole_begun (run_rows c.args.format c.args.hart c.args.runs) (g.O.Write.contents c.args.out.now)
    (g.O.Write.contents c.loop-run.out) (returns-clause-text g c)
