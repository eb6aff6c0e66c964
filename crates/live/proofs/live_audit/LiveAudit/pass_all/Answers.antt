-- The front goes on by one more: by lemmas on steps, which no tactic finds.
use Rattle.std.proofs.Common.{◌≡◌, ◌+◌, ◌∙◌, ap, arith, drop, slice_get, subst, sym, take}
use Rattle.message.proofs.Elements.{slice_get-some}
use Rattle.live.specs.Auditing.{GoesTo}
use Rattle.live.specs.Live.{passes, passes_all}
use Rattle.live.proofs.Steps.{goes_as, goes_then, passed_front, passes_more}
use Rattle.live.proofs.live_audit.LiveAudit.pass_all.Goals as goal

pub loop-init : goal.loop-init
loop-init g c = λ all read state left right stands within.
    record { stands = stands; told = g.met.L.LiveLines.nothing c.args.lines.now }

pub loop-preserved : goal.loop-preserved
loop-preserved g c = λ all read state left right stands within.
    let under = c.loop.invariant all read state left right stands within in
    let k = c.loop.counter in
    let more = c.loop-test.true in
    let of_sent = stands.reads.within in
    let first = passes_all all.window all.sent state (take k (drop state.front all.sent)) in
    let message = slice_get-some all.sent (state.front + k) (omega (arith, within, more, of_sent)) in
    let front = passed_front all.window all.sent state k (omega (arith, within, more, of_sent)) in
    goes_as all read (λ told. g.L.LiveLines.Told c.args.lines.now told c.pass.new.lines) _ _ c.pass.new.self left
    (sym (passes_more all.window all.sent state k message.0 message.1))
    (goes_then _ g.L.LiveLines.Told g.met.L.LiveLines.joined all c.args.lines.now c.loop.lines c.pass.new.lines first
    (λ next. passes all.window all.sent next message.0) read c.pass.new.self left under.told
    (c.pass.ensures all read first.state left message.0 right under.stands (omega (arith, front, within, more))
    (ap (slice_get all.sent) front ∙ message.1)))

pub returns : goal.returns
returns g c = λ all read state left right stands within.
    let end : c.loop.counter ≡ c.args.count = omega (arith, c.loop-test.false, c.loop.auto.counter-end) in
    subst (λ n. GoesTo all read (λ told. g.L.LiveLines.Told c.args.lines.now told c.loop.lines)
    (passes_all all.window all.sent state (take n (drop state.front all.sent))) c.loop.self left) end
    (c.loop.invariant all read state left right stands within)
