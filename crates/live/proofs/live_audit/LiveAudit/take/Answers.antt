-- A message of a hart that is known: by a test on the hart, which no tactic makes.
use Rattle.std.proofs.Common.{◌<◌, ◌∙◌, arith, cond, subst, sym}
use Rattle.std.proofs.lemmas.Bool.{lt-ltb}
use Rattle.live.specs.Auditing.{LiveHolding, Stands, Went}
use Rattle.live.specs.Course.{taking}
use Rattle.live.specs.Live.{strange, taken}
use Rattle.live.proofs.Following.{asked_read}
use Rattle.live.proofs.Settling.{taking_step}
use Rattle.live.proofs.live_audit.LiveAudit.take.Goals as goal

pub returns-then-from-len : goal.returns-then-from-len
returns-then-from-len g c = λ all read state right stood.
    let left = g.S.SentSource.left c.args.source.now in
    let one = c.args.one in
    let own : LiveHolding =
    record { window = c.self.inside.window; waiting = c.self.inside.waiting.items; runs = c.self.inside.runs.items } in
    let stands : Stands all read state own left = subst (λ o. Stands all read state o left) (sym c.self.view_is) stood in
    let less = c.if-from-len.true in
    let from = c.from.ensures in
    let count = c.len.ensures ∙ c.self.inside.waiting.ok.0 in
    let waits = stands.waits in
    let within : one.message.hart < all.harts = omega (arith, less, from, count, waits) in
    let course = taking all state one read in
    subst (λ b. Went all (λ told. g.L.LiveLines.Told c.args.lines.now told c.take_known.new.lines) read (record {
      step = cond b (taken all.window all.sent state one) (strange state one);
      asked = cond b course.asked read;
      told = course.told;
    }) c.take_known.result c.take_known.new.self (g.S.SentSource.left c.take_known.new.source))
    (sym (lt-ltb one.message.hart all.harts within))
    (subst (λ s. Went all (λ told. g.L.LiveLines.Told c.args.lines.now told c.take_known.new.lines) read
    (record course { step = s }) c.take_known.result c.take_known.new.self (g.S.SentSource.left c.take_known.new.source))
    (taking_step all state one read)
    (c.take_known.ensures all read read state right stood (asked_read all read stands.reads.within) within))
