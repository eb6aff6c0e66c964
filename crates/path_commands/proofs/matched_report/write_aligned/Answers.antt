-- The rows are written one after the other: by lemmas on parts of a text, which no tactic finds.
use Rattle.std.proofs.Common.{◌<◌, ◌≤◌, arith, length}
use Rattle.std.proofs.lemmas.List.{get_or_read}
use Rattle.output.proofs.Beginnings.{whole_begun}
use Rattle.path_commands.proofs.MatchedLines.{own_begun, own_more, owns_all}
use Rattle.output.proofs.FieldParts.{part_none}
use Rattle.path_commands.specs.MatchedRows.{own_row}
use Rattle.path_commands.specs.UnnumberedText.{of_selected, texts_from}
use Rattle.path_commands.proofs.matched_report.write_aligned.Goals as goal

pub loop-hart-init : goal.loop-hart-init
loop-hart-init g c = part_none (texts_from (of_selected c.args.report.harts (own_row c.args.report.format)) 0
    c.args.all.now)
    (g.O.Write.contents c.args.out.now)

pub loop-hart-preserved : goal.loop-hart-preserved
loop-hart-preserved g c =
    let hart = c.loop-hart.hart in
    let own = c.index-all-hart.result in
    let within : hart < length c.args.all.now = omega arith in
    own_more (of_selected c.args.report.harts (own_row c.args.report.format)) c.args.all.now hart
    (g.O.Write.contents c.args.out.now)
    (g.O.Write.contents c.loop-hart.out)
    c.loop-hart.invariant own (g.O.Write.contents c.write_hart.new.out) within
    (get_or_read c.args.all.now hart own within c.index-all-hart.is own)
    c.in_ok-write_hart.ensures.text

pub returns-in_err-write_hart-clause-begun : goal.returns-in_err-write_hart-clause-begun
returns-in_err-write_hart-clause-begun g c =
    let hart = c.loop-hart.hart in
    let own = c.index-all-hart.result in
    let within : hart < length c.args.all.now = omega arith in
    own_begun (of_selected c.args.report.harts (own_row c.args.report.format)) c.args.all.now hart
    (g.O.Write.contents c.args.out.now)
    (g.O.Write.contents c.loop-hart.out)
    c.loop-hart.invariant own (g.O.Write.contents c.write_hart.new.out) within
    (get_or_read c.args.all.now hart own within c.index-all-hart.is own)
    c.write_hart.ensures.begun

pub returns-clause-text : goal.returns-clause-text
returns-clause-text g c =
    let past : length c.args.all.now ≤ c.loop-hart.hart = omega arith in
    owns_all (of_selected c.args.report.harts (own_row c.args.report.format)) c.args.all.now c.loop-hart.hart
    (g.O.Write.contents c.args.out.now)
    (g.O.Write.contents c.loop-hart.out) c.loop-hart.invariant past

pub returns-clause-begun : goal.returns-clause-begun
returns-clause-begun g c =
    whole_begun (texts_from (of_selected c.args.report.harts (own_row c.args.report.format)) 0 c.args.all.now)
    (g.O.Write.contents c.args.out.now)
    (g.O.Write.contents c.loop-hart.out) (returns-clause-text g c)
