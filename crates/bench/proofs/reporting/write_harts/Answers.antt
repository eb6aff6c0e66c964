-- The harts so far and one more are first harts, by a lemma on lists.
use Rattle.std.proofs.Common.{◌≡◌, ◌+◌, suc, map, take, length, sym, subst, ◌∙◌, arith, refl}
use Rattle.std.specs.Io.KnownBytes.{Appends}
use Rattle.std.proofs.KnownBytes.{Appends-trans}
use Rattle.std.proofs.lemmas.Option.{slice_get_read}
use Rattle.output.specs.Begun.{AppendsBeginning}
use Rattle.output.proofs.Beginnings.{whole_begun}
use Rattle.bench.specs.Got.{got_of}
use Rattle.bench.specs.Report.{report_line, report_lines}
use Rattle.bench.proofs.ReportLemmas.{are_whole-all, are_whole-next, got_at, hart_begun, report_lines-all}
use Rattle.bench.proofs.ReportLemmas.{report_lines-next, length-gots}
use Rattle.bench.proofs.reporting.write_harts.Goals as goal

pub loop-hart-preserved : goal.loop-hart-preserved
loop-hart-preserved g c =
    let harts = c.args.harts.now in
    let logs = c.args.logs.now in
    let hart = c.loop-hart.hart in
    let known = c.loop-hart-test.true in
    let one = got_of c.index-harts-hart.result in
    let got = got_at harts hart c.index-harts-hart.result known c.index-harts-hart.is in
    let log = slice_get_read logs (length logs) hart c.index-logs-hart.result refl
    (omega (arith, known, c.requires)) c.index-logs-hart.is in
    let more = are_whole-next (map got_of harts) logs hart one c.index-logs-hart.result got log in
    let lines = report_lines-next 0 (map got_of harts) logs hart one c.index-logs-hart.result got log in
    let next : hart + 1 ≡ suc hart = omega arith in
    let first = report_lines 0 (take hart (map got_of harts)) (take hart logs) in
    let place : 0 + hart ≡ hart = omega arith in
    let here = subst (λ h. Appends (g.W.Write.contents c.loop-hart.sink) (g.W.Write.contents c.write_hart.new.sink)
    (report_line h one c.index-logs-hart.result))
    (sym place) c.in_ok-whole.ensures.text in
    let written = Appends-trans (g.W.Write.contents c.args.sink.now) (g.W.Write.contents c.loop-hart.sink)
    (g.W.Write.contents c.write_hart.new.sink)
    first (report_line (0 + hart) one c.index-logs-hart.result) c.loop-hart.invariant.text here in
    record {
      whole = rw (next, c.in_ok-whole.ensures.whole, c.loop-hart.invariant.whole) (sym more);
      text = rw next
          (subst (Appends (g.W.Write.contents c.args.sink.now) (g.W.Write.contents c.write_hart.new.sink))
          (sym lines) written);
    }

pub returns-clause-whole : goal.returns-clause-whole
returns-clause-whole g c =
    let gots = map got_of c.args.harts.now in
    let known = length-gots c.args.harts.now in
    let over = c.loop-hart-test.false in
    c.loop-hart.invariant.whole
    ∙ are_whole-all gots c.args.logs.now c.loop-hart.hart (omega (arith, known, over)) (omega (arith, c.requires, over))

pub returns-clause-text : goal.returns-clause-text
returns-clause-text g c =
    let gots = map got_of c.args.harts.now in
    let known = length-gots c.args.harts.now in
    let over = c.loop-hart-test.false in
    let all = report_lines-all gots c.args.logs.now c.loop-hart.hart
    (omega (arith, known, over)) (omega (arith, c.requires, over)) in
    subst (Appends (g.W.Write.contents c.args.sink.now) (g.W.Write.contents c.loop-hart.sink)) all
    c.loop-hart.invariant.text

pub returns-in_err-whole-clause-begun : goal.returns-in_err-whole-clause-begun
returns-in_err-whole-clause-begun g c =
    let harts = c.args.harts.now in
    let logs = c.args.logs.now in
    let hart = c.loop-hart.hart in
    let known = c.loop-hart-test.true in
    let one = got_of c.index-harts-hart.result in
    let mid = g.W.Write.contents c.loop-hart.sink in
    let new = g.W.Write.contents c.write_hart.new.sink in
    let got = got_at harts hart c.index-harts-hart.result known c.index-harts-hart.is in
    let log = slice_get_read logs (length logs) hart c.index-logs-hart.result refl
    (omega (arith, known, c.requires)) c.index-logs-hart.is in
    let place : 0 + hart ≡ hart = omega arith in
    hart_begun (map got_of harts) logs hart one c.index-logs-hart.result (g.W.Write.contents c.args.sink.now) mid new
    got log
    c.loop-hart.invariant.text
    (subst (λ h. AppendsBeginning (report_line h one c.index-logs-hart.result) mid new) (sym place)
    c.write_hart.ensures.begun)

pub returns-clause-begun : goal.returns-clause-begun
returns-clause-begun g c =
    whole_begun (report_lines 0 (map got_of c.args.harts.now) c.args.logs.now) (g.W.Write.contents c.args.sink.now)
    (g.W.Write.contents c.loop-hart.sink) (returns-clause-text g c)
