-- The counts are written one after the other: by lemmas on parts of a text, which no tactic finds.
use Rattle.std.proofs.Common.{◌<◌, ◌≤◌, arith, length}
use Rattle.std.specs.List.{flat_map}
use Rattle.output.proofs.Beginnings.{whole_begun}
use Rattle.output.proofs.Items.{item_begun, item_more, items_all}
use Rattle.output.proofs.FieldParts.{part_none}
use Rattle.salvage_reports.specs.steps.Harts.{own_total}
use Rattle.salvage_reports.proofs.found_writing.write_totals.Goals as goal

pub loop-what-init : goal.loop-what-init
loop-what-init g c = part_none (flat_map (own_total c.args.layout c.args.found.now c.args.bytes.now) c.args.all.now)
    (g.O.Write.contents c.args.out.now)

pub loop-what-preserved : goal.loop-what-preserved
loop-what-preserved g c =
    let place = c.loop-what.what-index in
    let within : place < length c.args.all.now = omega arith in
    item_more (own_total c.args.layout c.args.found.now c.args.bytes.now) c.args.all.now place
    (g.O.Write.contents c.args.out.now)
    (g.O.Write.contents c.loop-what.out)
    c.loop-what.invariant _ (g.O.Write.contents c.write_total.new.out) within
    c.in_ok-write_total.ensures.text

pub returns-in_err-write_total-clause-begun : goal.returns-in_err-write_total-clause-begun
returns-in_err-write_total-clause-begun g c =
    let place = c.loop-what.what-index in
    let within : place < length c.args.all.now = omega arith in
    item_begun (own_total c.args.layout c.args.found.now c.args.bytes.now) c.args.all.now place
    (g.O.Write.contents c.args.out.now)
    (g.O.Write.contents c.loop-what.out)
    c.loop-what.invariant _ (g.O.Write.contents c.write_total.new.out) within
    c.write_total.ensures.begun

pub returns-clause-text : goal.returns-clause-text
returns-clause-text g c =
    let end = c.loop-what-test.false in
    let past : length c.args.all.now ≤ c.loop-what.what-index = omega (arith, end) in
    items_all (own_total c.args.layout c.args.found.now c.args.bytes.now) c.args.all.now
    c.loop-what.what-index (g.O.Write.contents c.args.out.now)
    (g.O.Write.contents c.loop-what.out) c.loop-what.invariant past

pub returns-clause-begun : goal.returns-clause-begun
returns-clause-begun g c =
    whole_begun (flat_map (own_total c.args.layout c.args.found.now c.args.bytes.now) c.args.all.now)
    (g.O.Write.contents c.args.out.now) (g.O.Write.contents c.loop-what.out) (returns-clause-text g c)
