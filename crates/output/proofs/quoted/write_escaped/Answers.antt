-- The bytes are written one after the other: by lemmas on parts of a text, which no tactic finds.
use Rattle.std.proofs.Common.{◌<◌, ◌≤◌, arith, length}
use Rattle.std.specs.List.{flat_map}
use Rattle.output.proofs.Beginnings.{whole_begun}
use Rattle.output.proofs.Items.{item_begun, item_more, items_all}
use Rattle.output.proofs.FieldParts.{part_none}
use Rattle.output.specs.steps.Quoting.{escaped_byte}
use Rattle.output.proofs.quoted.write_escaped.Goals as goal

pub loop-byte-init : goal.loop-byte-init
loop-byte-init g c = part_none (flat_map escaped_byte c.args.field.now) (g.W.Write.contents c.args.out.now)

pub loop-byte-preserved : goal.loop-byte-preserved
loop-byte-preserved g c =
    let place = c.loop-byte.byte-index in
    let within : place < length c.args.field.now = omega arith in
    item_more escaped_byte c.args.field.now place (g.W.Write.contents c.args.out.now) (g.W.Write.contents c.loop-byte.out)
    c.loop-byte.invariant _ (g.W.Write.contents c.write_escaped_byte.new.out) within
    c.in_ok-write_escaped_byte.ensures.text

pub returns-in_err-write_escaped_byte-clause-begun : goal.returns-in_err-write_escaped_byte-clause-begun
returns-in_err-write_escaped_byte-clause-begun g c =
    let place = c.loop-byte.byte-index in
    let within : place < length c.args.field.now = omega arith in
    item_begun escaped_byte c.args.field.now place (g.W.Write.contents c.args.out.now) (g.W.Write.contents c.loop-byte.out)
    c.loop-byte.invariant _ (g.W.Write.contents c.write_escaped_byte.new.out) within
    c.write_escaped_byte.ensures.begun

pub returns-clause-text : goal.returns-clause-text
returns-clause-text g c =
    let end = c.loop-byte-test.false in
    let past : length c.args.field.now ≤ c.loop-byte.byte-index = omega (arith, end) in
    items_all escaped_byte c.args.field.now c.loop-byte.byte-index (g.W.Write.contents c.args.out.now)
    (g.W.Write.contents c.loop-byte.out) c.loop-byte.invariant past

pub returns-clause-begun : goal.returns-clause-begun
returns-clause-begun g c =
    whole_begun (flat_map escaped_byte c.args.field.now) (g.W.Write.contents c.args.out.now)
    (g.W.Write.contents c.loop-byte.out) (returns-clause-text g c)
