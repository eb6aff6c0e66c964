-- The rows are written one after the other: by lemmas on parts of a text, which no tactic finds.
use Rattle.std.proofs.Common.{◌+◌, ◌^◌, ◌<◌, ◌≤◌, ◌∙◌, length, ap, refl, subst, sym, arith, None}
use Rattle.std.specs.Io.KnownBytes.{Appends}
use Rattle.std.specs.List.{flat_map}
use Rattle.output.specs.Begun.{AppendsBeginning}
use Rattle.output.proofs.Beginnings.{whole_begun}
use Rattle.auditing.specs.Known.{known_all}
use Rattle.auditing.specs.HartRows.{row_of}
use Rattle.path_commands.specs.OnlyHarts.{harts_among}
use Rattle.path_commands.proofs.HartLines.{among_is, hart_begun, hart_more, harts_all}
use Rattle.output.proofs.FieldParts.{HasWritten, part_none}
use Rattle.path_commands.proofs.Sums.{AreFew, IsTotal, few_by, total_all, total_more, total_none}
use Rattle.path_commands.specs.AuditText.{total_of}
use Rattle.path_commands.specs.Rows.{hart_row, hart_rows}
use Rattle.path_commands.specs.steps.Summing.{added, none_added}
use Rattle.path_commands.proofs.comparing.write_rows.Goals as goal

pub loop-hart-init : goal.loop-hart-init
loop-hart-init g c = λ own came audits few.
    let sent = known_all c.args.path.now.by own in
    let received = known_all c.args.path.now.by came in
    let count = length c.args.path.now.harts in
    let whole = hart_rows c.args.report.format sent received (harts_among c.args.report.harts count) in
    let out = g.O.Write.contents c.args.out.now in
    let past = c.past_among-past.result in
    let is =
    among_is c.args.report.harts c.from-hart.result c.past_among-past.result c.harts.result count c.from-hart.ensures
    c.past_among-past.ensures.past
    c.harts.ensures in (
      subst (λ harts. HasWritten whole (flat_map (λ hart. hart_row c.args.report.format hart
          (row_of sent received hart) None) harts)
          out out) (sym is) (part_none whole out),
      subst (λ total. IsTotal sent received total c.args.report.harts.first c.from-hart.result past)
          (sym c.new-total.ensures)
          (subst (λ hart. IsTotal sent received none_added c.args.report.harts.first hart past)
          (sym c.from-hart.ensures)
          (total_none sent received c.args.report.harts.first past)),
    )

pub loop-hart-preserved : goal.loop-hart-preserved
loop-hart-preserved g c = λ own came audits few.
    let sent = known_all c.args.path.now.by own in
    let received = known_all c.args.path.now.by came in
    let count = length c.args.path.now.harts in
    let hart = c.loop-hart.hart in
    let row = c.row-row.result in
    let past = c.past_among-past.result in
    let within : hart < past = omega arith in
    let most : past < 2 ^ 64 = omega arith in
    let is = c.row-row.ensures own came audits few in
    let mid = g.O.Write.contents c.loop-hart.out in
    let new = g.O.Write.contents c.write_text.new.out in
    let line = subst (λ row. Appends mid new (hart_row c.args.report.format hart row None)) is
    c.in_ok-write_text.ensures.whole in
    let rows : AreFew row =
    few_by row (omega arith) (omega arith) (omega arith) (omega arith) (omega arith) (omega arith) (omega arith) in
    let has = c.loop-hart.invariant own came audits few in (
      hart_more (λ hart. hart_row c.args.report.format hart (row_of sent received hart) None)
          (hart_rows c.args.report.format sent received
          (harts_among c.args.report.harts count)) past
          (g.O.Write.contents c.args.out.now) mid hart new within has.0 line,
      subst (λ total. IsTotal sent received total c.args.report.harts.first (hart + 1) past)
          (sym (c.add-total.ensures ∙ ap (added c.loop-hart.total) is))
          (total_more sent received c.loop-hart.total c.args.report.harts.first hart past within most
          (subst AreFew is rows) has.1),
    )

pub returns-in_err-write_text-clause-begun : goal.returns-in_err-write_text-clause-begun
returns-in_err-write_text-clause-begun g c = λ own came audits few.
    let sent = known_all c.args.path.now.by own in
    let received = known_all c.args.path.now.by came in
    let count = length c.args.path.now.harts in
    let hart = c.loop-hart.hart in
    let past = c.past_among-past.result in
    let within : hart < past = omega arith in
    let is = c.row-row.ensures own came audits few in
    let mid = g.O.Write.contents c.loop-hart.out in
    let new = g.O.Write.contents c.write_text.new.out in
    let line = subst (λ row. AppendsBeginning (hart_row c.args.report.format hart row None) mid new) is
    c.write_text.ensures.begun in
    let has = c.loop-hart.invariant own came audits few in
    hart_begun (λ hart. hart_row c.args.report.format hart (row_of sent received hart) None)
    (hart_rows c.args.report.format sent received
    (harts_among c.args.report.harts count)) past
    (g.O.Write.contents c.args.out.now) mid hart new within has.0 line

pub returns-clause-text : goal.returns-clause-text
returns-clause-text g c = λ own came audits few.
    let sent = known_all c.args.path.now.by own in
    let received = known_all c.args.path.now.by came in
    let count = length c.args.path.now.harts in
    let past = c.past_among-past.result in
    let over : past ≤ c.loop-hart.hart = omega arith in
    let has = c.loop-hart.invariant own came audits few in
    harts_all (λ hart. hart_row c.args.report.format hart (row_of sent received hart) None)
    (hart_rows c.args.report.format sent received
    (harts_among c.args.report.harts count)) past
    (g.O.Write.contents c.args.out.now) (g.O.Write.contents c.loop-hart.out) c.loop-hart.hart over has.0

pub returns-clause-total : goal.returns-clause-total
returns-clause-total g c = λ own came audits few.
    let sent = known_all c.args.path.now.by own in
    let received = known_all c.args.path.now.by came in
    let count = length c.args.path.now.harts in
    let past = c.past_among-past.result in
    let over : past ≤ c.loop-hart.hart = omega arith in
    let has = c.loop-hart.invariant own came audits few in
    total_all sent received c.loop-hart.total c.args.report.harts.first c.loop-hart.hart past over has.1
    ∙ ap (total_of sent received)
    (among_is c.args.report.harts c.args.report.harts.first past c.harts.result count refl
    c.past_among-past.ensures.past
    c.harts.ensures)

pub returns-clause-begun : goal.returns-clause-begun
returns-clause-begun g c = λ own came audits few.
    let sent = known_all c.args.path.now.by own in
    let received = known_all c.args.path.now.by came in
    whole_begun (hart_rows c.args.report.format sent received (harts_among c.args.report.harts
    (length c.args.path.now.harts)))
    (g.O.Write.contents c.args.out.now)
    (g.O.Write.contents c.loop-hart.out) (returns-clause-text g c own came audits few)
