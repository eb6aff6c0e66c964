-- The rows are written one after the other: by lemmas on parts of a text, which no tactic finds.
use Rattle.std.proofs.Common.{◌<◌, ◌≤◌, arith, length}
use Rattle.std.specs.List.{flat_map}
use Rattle.output.proofs.Beginnings.{whole_begun}
use Rattle.output.proofs.Items.{item_begun, item_more, items_all}
use Rattle.output.proofs.FieldParts.{part_none}
use Rattle.path_commands.specs.MatchedRows.{arrival_row}
use Rattle.path_commands.proofs.matched_report.write_lines.Goals as goal

pub loop-line-init : goal.loop-line-init
loop-line-init g c = part_none (flat_map (arrival_row c.args.format) c.args.lines.now)
    (g.O.Write.contents c.args.out.now)

pub loop-line-preserved : goal.loop-line-preserved
loop-line-preserved g c =
    let place = c.loop-line.line-index in
    let within : place < length c.args.lines.now = omega arith in
    item_more (arrival_row c.args.format) c.args.lines.now place (g.O.Write.contents c.args.out.now)
    (g.O.Write.contents c.loop-line.out)
    c.loop-line.invariant _ (g.O.Write.contents c.write_arrival.new.out) within
    c.in_ok-write_arrival.ensures.text

pub returns-in_err-write_arrival-clause-begun : goal.returns-in_err-write_arrival-clause-begun
returns-in_err-write_arrival-clause-begun g c =
    let place = c.loop-line.line-index in
    let within : place < length c.args.lines.now = omega arith in
    item_begun (arrival_row c.args.format) c.args.lines.now place (g.O.Write.contents c.args.out.now)
    (g.O.Write.contents c.loop-line.out)
    c.loop-line.invariant _ (g.O.Write.contents c.write_arrival.new.out) within
    c.write_arrival.ensures.begun

pub returns-clause-text : goal.returns-clause-text
returns-clause-text g c =
    let end = c.loop-line-test.false in
    let past : length c.args.lines.now ≤ c.loop-line.line-index = omega (arith, end) in
    items_all (arrival_row c.args.format) c.args.lines.now c.loop-line.line-index (g.O.Write.contents c.args.out.now)
    (g.O.Write.contents c.loop-line.out) c.loop-line.invariant past

pub returns-clause-begun : goal.returns-clause-begun
returns-clause-begun g c =
    whole_begun (flat_map (arrival_row c.args.format) c.args.lines.now) (g.O.Write.contents c.args.out.now)
    (g.O.Write.contents c.loop-line.out) (returns-clause-text g c)
