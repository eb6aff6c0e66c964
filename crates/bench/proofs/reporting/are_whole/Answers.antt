-- The harts so far and one more are first harts, by a lemma on lists.
use Rattle.std.proofs.Common.{◌≡◌, ◌+◌, suc, map, length, ap, sym, ◌∙◌, arith, refl}
use Rattle.std.proofs.lemmas.Option.{slice_get_read}
use Rattle.bench.specs.Got.{got_of}
use Rattle.bench.specs.Report.{is_whole_verdict}
use Rattle.bench.proofs.ReportLemmas.{are_whole-all, are_whole-next, got_at, length-gots}
use Rattle.bench.proofs.reporting.are_whole.Goals as goal

pub loop-hart-preserved : goal.loop-hart-preserved
loop-hart-preserved g c =
    let harts = c.args.harts.now in
    let logs = c.args.logs.now in
    let hart = c.loop-hart.hart in
    let known = c.loop-hart-test.true in
    let got = got_at harts hart c.index-harts-hart.result known c.index-harts-hart.is in
    let log = slice_get_read logs (length logs) hart c.index-logs-hart.result refl
    (omega (arith, known, c.requires)) c.index-logs-hart.is in
    let more = are_whole-next (map got_of harts) logs hart (got_of c.index-harts-hart.result)
    c.index-logs-hart.result got log in
    let here = c.is_whole-whole.ensures ∙ ap is_whole_verdict c.verdict_of-verdict.ensures in
    let next : hart + 1 ≡ suc hart = omega arith in
    rw (next, here, c.loop-hart.invariant) (sym more)

pub returns : goal.returns
returns g c =
    let gots = map got_of c.args.harts.now in
    let known = length-gots c.args.harts.now in
    let over = c.loop-hart-test.false in
    c.loop-hart.invariant
    ∙ are_whole-all gots c.args.logs.now c.loop-hart.hart (omega (arith, known, over)) (omega (arith, c.requires, over))
