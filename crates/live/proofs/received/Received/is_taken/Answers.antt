-- What is held decides what is left, or more is read: by lemmas on what is left, which no tactic finds.
use Rattle.std.proofs.Common.{◌∙◌, Err, Ok, ap, refl, subst, sym}
use Rattle.live.specs.Received.{is_taken}
use Rattle.live.specs.ReceivedLeft.{FailsFor, Follows, ReceivedHeld, most_sought, rule_of}
use Rattle.live.specs.steps.Receiving.{Says, Settles}
use Rattle.live.proofs.ReceivedBuffer.{decided_held}
use Rattle.live.proofs.ReceivedSteps.{AreAmong, among_left, decided_lacks, fails_on, follows_none, follows_on}
use Rattle.live.proofs.received.Received.is_taken.Goals as goal

pub loop-init : goal.loop-init
loop-init g c = (
  refl,
  refl,
  λ all came front first rest right reads left. (
    follows_none all came front first rest (most_sought c.args.self.now.harts) c.args.window.now
        (g.S.SentSource.left c.args.source.now) reads,
    left,
  ),
  refl,
)

pub returns-in-Ok-clause-decided : goal.returns-in-Ok-clause-decided
returns-in-Ok-clause-decided g c = λ all came front first rest right reads left.
    let inv = c.loop.invariant in
    let now = inv.2 all came front first rest right reads left in
    let file = g.R.FileReader.left c.loop.reader in
    let held = c.held.result.now in
    let most = most_sought c.args.self.now.harts in
    let harts = ap (λ (own : ReceivedHeld). own.harts) c.self.view_is ∙ inv.0 in
    let found =
    subst
    (λ r. Settles all came front now.0.read held (most_sought r)
    (Says (is_taken (rule_of r all front) c.args.astray) held c.self.inside.ended) (Ok c.in-Ok.taken) c.is_taken.new.window
    (g.S.SentSource.left c.is_taken.new.source)) harts
    (c.in-Ok.ensures.settles all came front now.0.read right now.0.reads) in (
      decided_held (is_taken (rule_of c.args.self.now.harts all front) c.args.astray) c.loop.self file rest held
          c.self.inside.ended c.in-Ok.taken c.held.ensures.value
          (ap (λ (own : ReceivedHeld). own.ended) c.self.view_is) now.1 found.0,
      now.1,
      follows_on all front first now.0.read now.0.more held most rest most now.0.sought
          (subst (λ l. AreAmong l most rest most) (sym c.held.ensures.value) (among_left c.loop.self file rest most now.1)) came
          c.is_taken.new.window (g.S.SentSource.left c.is_taken.new.source) found.1,
    )

pub returns-in-Err-clause-decided : goal.returns-in-Err-clause-decided
returns-in-Err-clause-decided g c = λ all came front first rest right reads left.
    let now = c.loop.invariant.2 all came front first rest right reads left in
    decided_lacks all came front first (is_taken (rule_of c.args.self.now.harts all front) c.args.astray) rest
    (most_sought c.args.self.now.harts) c.in-Err.why c.read.new.self c.read.new.self (g.R.FileReader.left c.read.new.reader)
    (g.R.FileReader.left c.read.new.reader) c.is_taken.new.window (g.S.SentSource.left c.is_taken.new.source)
    (c.in-Err.ensures.reads rest now.1)

pub loop-preserved : goal.loop-preserved
loop-preserved g c = (
  c.read.ensures.harts ∙ c.loop.invariant.0,
  c.read.ensures.offset ∙ c.loop.invariant.1,
  λ all came front first rest right reads left.
      let inv = c.loop.invariant in
      let now = inv.2 all came front first rest right reads left in
      let held = c.held.result.now in
      let most = most_sought c.args.self.now.harts in
      let harts = ap (λ (own : ReceivedHeld). own.harts) c.self.view_is ∙ inv.0 in (
        follows_on all front first now.0.read now.0.more held most rest most now.0.sought
            (subst (λ l. AreAmong l most rest most) (sym c.held.ensures.value)
            (among_left c.loop.self (g.R.FileReader.left c.loop.reader) rest most now.1)) came c.is_taken.new.window
            (g.S.SentSource.left c.is_taken.new.source)
            (subst
            (λ r. Follows all came front now.0.read held (most_sought r) c.is_taken.new.window
            (g.S.SentSource.left c.is_taken.new.source)) harts
            (subst
            (λ w. Settles all came front now.0.read held (most_sought c.self.inside.harts)
            (Says (is_taken (rule_of c.self.inside.harts all front) c.args.astray) held c.self.inside.ended)
            (Err w) c.is_taken.new.window (g.S.SentSource.left c.is_taken.new.source)) c.in-Err-Bytes.field-0-is
            (c.in-Err-Bytes.ensures.settles all came front now.0.read right now.0.reads))),
        c.in-Ok-read.ensures.reads rest now.1,
      ),
  c.read.ensures.most ∙ c.loop.invariant.3,
)

pub returns-in-Err-Sent-clause-decided : goal.returns-in-Err-Sent-clause-decided
returns-in-Err-Sent-clause-decided g c = λ all came front first rest right reads left.
    let inv = c.loop.invariant in
    let now = inv.2 all came front first rest right reads left in
    let held = c.held.result.now in
    let most = most_sought c.args.self.now.harts in
    let harts = ap (λ (own : ReceivedHeld). own.harts) c.self.view_is ∙ inv.0 in (
      now.1,
      fails_on all front first now.0.read now.0.more held most rest most now.0.sought
          (subst (λ l. AreAmong l most rest most) (sym c.held.ensures.value)
          (among_left c.loop.self (g.R.FileReader.left c.loop.reader) rest most now.1)) c.in-Err-Sent.why
          (g.S.SentSource.left c.is_taken.new.source)
          (subst
          (λ r. FailsFor all front now.0.read held (most_sought r) c.in-Err-Sent.why
          (g.S.SentSource.left c.is_taken.new.source)) harts
          (subst
          (λ w. Settles all came front now.0.read held (most_sought c.self.inside.harts)
          (Says (is_taken (rule_of c.self.inside.harts all front) c.args.astray) held c.self.inside.ended)
          (Err w) c.is_taken.new.window (g.S.SentSource.left c.is_taken.new.source)) c.in-Err-Sent.field-0-is
          (c.in-Err-Sent.ensures.settles all came front now.0.read right now.0.reads))),
    )
