-- The lines so far and one more are put together by lemmas on passes.
use Rattle.std.proofs.Common.{[], ◌∷◌, subst, sym}
use Rattle.std.specs.Str.Lines.{lines}
use Rattle.captures.specs.Pass.{pass}
use Rattle.captures.proofs.Passes.{IsUnderWay, all_passed, cut_off, ended_at, line_by_line, passed_on, under_way}
use Rattle.captures.proofs.passed_lines.PassedLines.add.Goals as goal

pub loop-init : goal.loop-init
loop-init g c =
    let settings = c.args.settings.now in
    let own = c.args.self.now in
    subst (λ text. IsUnderWay [] (pass settings c.args.skip own (lines c.args.text.now))
    (pass settings c.args.skip own (lines text)) (g.W.Write.contents c.args.sink.now)
    (g.W.Write.contents c.args.sink.now))
    (sym c.new-lines.ensures)
    (under_way (pass settings c.args.skip own (lines c.args.text.now)) (g.W.Write.contents c.args.sink.now))

pub returns-in_default : goal.returns-in_default
returns-in_default g c =
    let settings = c.args.settings.now in
    let whole = pass settings c.args.skip c.args.self.now (lines c.args.text.now) in
    let old = g.W.Write.contents c.args.sink.now in
    let mid = g.W.Write.contents c.loop.sink in
    all_passed [] whole old mid tt c.loop.self
    (subst (λ left. IsUnderWay [] whole (pass settings c.args.skip c.loop.self left) old mid) c.in_default.ensures.line
    c.loop.invariant)

pub returns-in-Err : goal.returns-in-Err
returns-in-Err g c =
    let settings = c.args.settings.now in
    let whole = pass settings c.args.skip c.args.self.now (lines c.args.text.now) in
    let old = g.W.Write.contents c.args.sink.now in
    let mid = g.W.Write.contents c.loop.sink in
    let new = g.W.Write.contents c.pass.new.sink in
    ended_at [] whole old mid (pass settings c.args.skip c.loop.self (c.in-Some.line.now ∷ []))
    (λ passed. pass settings c.args.skip passed (lines c.next.new.self)) new
    (line_by_line settings c.args.skip whole c.loop.self c.in-Some.line.now c.loop.lines c.next.new.self old mid
    c.in-Some.ensures.line c.loop.invariant)
    c.in-Err.why c.pass.new.self c.in-Err.ensures

pub loop-preserved : goal.loop-preserved
loop-preserved g c =
    let settings = c.args.settings.now in
    let whole = pass settings c.args.skip c.args.self.now (lines c.args.text.now) in
    let old = g.W.Write.contents c.args.sink.now in
    let mid = g.W.Write.contents c.loop.sink in
    let new = g.W.Write.contents c.pass.new.sink in
    passed_on [] whole old mid (pass settings c.args.skip c.loop.self (c.in-Some.line.now ∷ []))
    (λ passed. pass settings c.args.skip passed (lines c.next.new.self)) new
    (line_by_line settings c.args.skip whole c.loop.self c.in-Some.line.now c.loop.lines c.next.new.self old mid
    c.in-Some.ensures.line c.loop.invariant)
    tt c.pass.new.self c.in-Ok.ensures

pub returns : goal.returns
returns g c =
    let settings = c.args.settings.now in
    let whole = pass settings c.args.skip c.args.self.now (lines c.args.text.now) in
    cut_off [] whole (g.W.Write.contents c.args.sink.now) (g.W.Write.contents c.loop.sink)
    (pass settings c.args.skip c.loop.self (lines c.loop.lines)) c.loop.self c.loop.invariant
