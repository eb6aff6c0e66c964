-- SENT is read on by one message: by lemmas on steps, which no tactic finds.
use Rattle.std.proofs.Common.{◌+◌, ◌≤◌, Ok, arith, subst, sym}
use Rattle.live.specs.Course.{moves_near}
use Rattle.live.specs.Live.{stays}
use Rattle.live.specs.steps.Advancing.{ReadsNext}
use Rattle.live.proofs.ReadingOn.{near_enough, none_more, reads_done, reads_further, reads_stopped}
use Rattle.live.proofs.Steps.{goes_as}
use Rattle.live.proofs.live_audit.LiveAudit.read_on.Goals as goal

pub loop-init : goal.loop-init
loop-init g c = λ all read asked state right stands was none.
    let left = g.S.SentSource.left c.args.source.now in (
      read,
      goes_as all read (λ told. g.L.LiveLines.Told c.args.lines.now told c.args.lines.now) (stays state)
          (moves_near all read state) c.args.self.now left (sym (near_enough all read state c.args.self.now left stands))
          (record { stands = stands; told = g.met.L.LiveLines.nothing c.args.lines.now }),
      none,
      (let same : read ≤ read = omega arith in same),
    )

pub loop-preserved : goal.loop-preserved
loop-preserved g c = λ all read asked state right stands was none.
    let under = c.loop.invariant all read asked state right stands was none in
    let there = (moves_near all under.0 state).state in
    let after = g.S.SentSource.left c.read_next.new.source in
    let next =
    subst (λ b. ReadsNext all under.0 (λ told. g.L.LiveLines.Told c.loop.lines told c.read_next.new.lines) there c.args.hart
    c.args.number (Ok b) c.read_next.new.self after) c.in-Ok-false.field-0-test
    (c.in-Ok-false.ensures all under.0 there right under.1.stands) in (
      under.0 + 1,
      reads_further _ g.L.LiveLines.Told g.met.L.LiveLines.joined all c.args.lines.now c.loop.lines c.read_next.new.lines under.0
          state c.loop.self (g.S.SentSource.left c.loop.source) under.1 c.read_next.new.self after next.2,
      none_more all under.0 c.args.hart c.args.number under.2 next.1,
      (let later = under.3 in let more : read ≤ under.0 + 1 = omega (arith, later) in more),
    )

pub returns-in-Ok-true : goal.returns-in-Ok-true
returns-in-Ok-true g c = λ all read asked state right stands was none.
    let under = c.loop.invariant all read asked state right stands was none in
    let there = (moves_near all under.0 state).state in
    let after = g.S.SentSource.left c.read_next.new.source in
    let next =
    subst (λ b. ReadsNext all under.0 (λ told. g.L.LiveLines.Told c.loop.lines told c.read_next.new.lines) there c.args.hart
    c.args.number (Ok b) c.read_next.new.self after) c.in-Ok-true.field-0-test
    (c.in-Ok-true.ensures all under.0 there right under.1.stands) in
    reads_done _ g.L.LiveLines.Told g.met.L.LiveLines.joined all c.args.lines.now c.loop.lines c.read_next.new.lines under.0 state
    c.loop.self (g.S.SentSource.left c.loop.source) under.1 c.args.hart c.args.number under.2 asked read was under.3
    c.read_next.new.self after next

pub returns-in-Err : goal.returns-in-Err
returns-in-Err g c = λ all read asked state right stands was none.
    let under = c.loop.invariant all read asked state right stands was none in
    let there = (moves_near all under.0 state).state in
    let next = c.in-Err.ensures all under.0 there right under.1.stands in
    reads_stopped _ g.L.LiveLines.Told g.met.L.LiveLines.joined all c.args.lines.now c.loop.lines c.read_next.new.lines under.0
    state c.loop.self (g.S.SentSource.left c.loop.source) under.1 c.args.hart c.args.number under.2 asked read was under.3 c.in-Err.why
    (g.S.SentSource.left c.read_next.new.source) next.0 next.1 next.2

pub returns : goal.returns
returns g c = λ all read asked state right stands was none.
    let under = c.loop.invariant all read asked state right stands was none in
    reads_stopped _ g.L.LiveLines.Told g.met.L.LiveLines.joined all c.args.lines.now c.loop.lines c.loop.lines under.0 state
    c.loop.self (g.S.SentSource.left c.loop.source) under.1 c.args.hart c.args.number under.2 asked read was under.3 _
    (g.S.SentSource.left c.loop.source) tt (λ known. under.1.stands.reads.remains) (g.met.L.LiveLines.nothing c.loop.lines)
