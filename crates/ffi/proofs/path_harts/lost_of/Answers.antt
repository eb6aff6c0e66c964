-- The lost numbers of one hart more are added: by lemmas on lists, which no tactic finds.
use Rattle.std.proofs.Common.{◌++◌, ◌∙◌, length, map, ap, arith}
use Rattle.auditing.specs.Known.{known_all}
use Rattle.auditing.specs.Losing.{lost_runs}
use Rattle.ffi.specs.AuditedAll.{all_lost, lost_reported}
use Rattle.ffi.proofs.HartsInTurn.{lost_all, lost_more}
use Rattle.ffi.proofs.path_harts.lost_of.Goals as goal

pub loop-hart-preserved : goal.loop-hart-preserved
loop-hart-preserved c = λ own came audits.
    let sent = known_all c.args.path.now.by own in
    let received = known_all c.args.path.now.by came in
    let hart = c.loop-hart.hart in
    let count = length c.args.path.now.harts in
    let low = c.loop-hart-test.true in
    let end = c.harts-hart-end.ensures in
    lost_more (λ hart. map (lost_reported hart) (lost_runs sent received hart)) c.loop-hart.lost.items
    c.add_lost.new.lost.items (all_lost sent received count) hart count (c.loop-hart.invariant own came audits)
    (omega (arith, low, end))
    (c.in_ok-add_lost.ensures
    ∙ ap (λ runs. c.loop-hart.lost.items ++ map (lost_reported hart) runs) (c.lost.ensures own came audits))

pub returns : goal.returns
returns c = λ own came audits.
    let sent = known_all c.args.path.now.by own in
    let received = known_all c.args.path.now.by came in
    let count = length c.args.path.now.harts in
    let high = c.loop-hart-test.false in
    let end = c.harts-hart-end.ensures in
    lost_all (λ hart. map (lost_reported hart) (lost_runs sent received hart)) c.loop-hart.lost.items
    c.loop-hart.lost.items (all_lost sent received count) c.loop-hart.hart count (c.loop-hart.invariant own came audits)
    (omega (arith, high, end))
