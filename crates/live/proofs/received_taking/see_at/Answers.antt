-- What is seen of the message that bytes begin with: by what the bytes are, which no tactic finds.
use Rattle.std.proofs.Common.{◌≡◌, ap, subst}
use Rattle.live.specs.ReceivedLeft.{rule_of}
use Rattle.live.specs.steps.Receiving.{Settles, seen_first}
use Rattle.live.proofs.ReceivedSteps.{follows_none}
use Rattle.live.proofs.received_taking.see_at.Goals as goal

pub returns-in-Some-clause-settles : goal.returns-in-Some-clause-settles
returns-in-Some-clause-settles g c = λ all came front first right reads.
    subst
    (λ m. Settles all came front first c.args.bytes.now 1 (λ seen. seen ≡ seen_first (rule_of c.args.harts all front).sees m)
    c.see.result c.see.new.window (g.S.SentSource.left c.see.new.source)) c.in-Some.ensures.value
    (c.see.ensures.settles all came front first c.args.bytes.now right reads c.in-Some.ensures.value)

pub returns-in-None-clause-settles : goal.returns-in-None-clause-settles
returns-in-None-clause-settles g c = λ all came front first right reads. (
  ap (seen_first (rule_of c.args.harts all front).sees) c.in-None.ensures.value,
  follows_none all came front first c.args.bytes.now 1 c.args.window.now (g.S.SentSource.left c.args.source.now) reads,
)
