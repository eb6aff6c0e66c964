-- The rows are written one after the other: by lemmas on parts of a text, which no tactic finds.
use Rattle.std.proofs.Common.{◌<◌, ◌≤◌, length, subst, sym, arith}
use Rattle.std.specs.Io.KnownBytes.{Appends}
use Rattle.std.specs.List.{flat_map}
use Rattle.output.specs.Begun.{AppendsBeginning}
use Rattle.output.proofs.Beginnings.{whole_begun}
use Rattle.auditing.specs.Known.{known_all}
use Rattle.auditing.specs.Losing.{lost_runs}
use Rattle.path_commands.specs.OnlyHarts.{harts_among}
use Rattle.path_commands.proofs.HartLines.{among_is, hart_begun, hart_more, harts_all}
use Rattle.output.proofs.FieldParts.{HasWritten, part_none}
use Rattle.path_commands.specs.Rows.{all_run_rows, run_rows}
use Rattle.path_commands.proofs.comparing.write_losses.Goals as goal

pub loop-hart-init : goal.loop-hart-init
loop-hart-init g c = λ own came audits.
    let sent = known_all c.args.path.now.by own in
    let received = known_all c.args.path.now.by came in
    let count = length c.args.path.now.harts in
    let whole = all_run_rows c.args.report.format sent received (harts_among c.args.report.harts count) in
    let out = g.O.Write.contents c.args.out.now in
    let is =
    among_is c.args.report.harts c.from-hart.result c.past_among-past.result c.harts.result count c.from-hart.ensures
    c.past_among-past.ensures.past
    c.harts.ensures in
    subst (λ harts. HasWritten whole (flat_map (λ hart. run_rows c.args.report.format hart
    (lost_runs sent received hart)) harts)
    out out) (sym is) (part_none whole out)

pub loop-hart-preserved : goal.loop-hart-preserved
loop-hart-preserved g c = λ own came audits.
    let sent = known_all c.args.path.now.by own in
    let received = known_all c.args.path.now.by came in
    let count = length c.args.path.now.harts in
    let past = c.past_among-past.result in
    let within : c.loop-hart.hart < past = omega arith in
    hart_more (λ hart. run_rows c.args.report.format hart (lost_runs sent received hart))
    (all_run_rows c.args.report.format sent received
    (harts_among c.args.report.harts count)) past
    (g.O.Write.contents c.args.out.now) (g.O.Write.contents c.loop-hart.out) c.loop-hart.hart
    (g.O.Write.contents c.write_lost.new.out) within (c.loop-hart.invariant own came audits)
    (subst (λ runs. Appends (g.O.Write.contents c.loop-hart.out) (g.O.Write.contents c.write_lost.new.out)
    (run_rows c.args.report.format c.loop-hart.hart runs)) (c.lost.ensures own came audits)
    c.in_ok-write_lost.ensures.text)

pub returns-in_err-write_lost-clause-begun : goal.returns-in_err-write_lost-clause-begun
returns-in_err-write_lost-clause-begun g c = λ own came audits.
    let sent = known_all c.args.path.now.by own in
    let received = known_all c.args.path.now.by came in
    let count = length c.args.path.now.harts in
    let past = c.past_among-past.result in
    let within : c.loop-hart.hart < past = omega arith in
    hart_begun (λ hart. run_rows c.args.report.format hart (lost_runs sent received hart))
    (all_run_rows c.args.report.format sent received
    (harts_among c.args.report.harts count)) past
    (g.O.Write.contents c.args.out.now) (g.O.Write.contents c.loop-hart.out) c.loop-hart.hart
    (g.O.Write.contents c.write_lost.new.out) within (c.loop-hart.invariant own came audits)
    (subst (λ runs. AppendsBeginning (run_rows c.args.report.format c.loop-hart.hart runs)
    (g.O.Write.contents c.loop-hart.out)
    (g.O.Write.contents c.write_lost.new.out)) (c.lost.ensures own came audits) c.write_lost.ensures.begun)

pub returns-clause-text : goal.returns-clause-text
returns-clause-text g c = λ own came audits.
    let sent = known_all c.args.path.now.by own in
    let received = known_all c.args.path.now.by came in
    let count = length c.args.path.now.harts in
    let past = c.past_among-past.result in
    let over : past ≤ c.loop-hart.hart = omega arith in
    harts_all (λ hart. run_rows c.args.report.format hart (lost_runs sent received hart))
    (all_run_rows c.args.report.format sent received
    (harts_among c.args.report.harts count)) past
    (g.O.Write.contents c.args.out.now) (g.O.Write.contents c.loop-hart.out) c.loop-hart.hart over
    (c.loop-hart.invariant own came audits)

pub returns-clause-begun : goal.returns-clause-begun
returns-clause-begun g c = λ own came audits.
    let sent = known_all c.args.path.now.by own in
    let received = known_all c.args.path.now.by came in
    whole_begun (all_run_rows c.args.report.format sent received (harts_among c.args.report.harts
    (length c.args.path.now.harts)))
    (g.O.Write.contents c.args.out.now)
    (g.O.Write.contents c.loop-hart.out) (returns-clause-text g c own came audits)
