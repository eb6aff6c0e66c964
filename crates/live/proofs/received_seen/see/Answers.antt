-- What is seen of a message: by what was read for it, which no tactic puts together.
use Rattle.std.proofs.Common.{◌∙◌, Bool, ℕ, ap, ap₂, arith, if◌then◌else◌, nat_lt, refl, subst, sym, take}
use Rattle.payload.specs.declared.by.By.{By}
use Rattle.live.specs.Received.{seen_at}
use Rattle.live.specs.ReceivedLeft.{IsWantedBy}
use Rattle.live.specs.View.{in_view, standing_of}
use Rattle.live.specs.declared.received_seen.Seen.TheVariants as seen
use Rattle.live.proofs.ReceivedSeen.{seen_wide}
use Rattle.live.proofs.ReceivedSteps.{follows_none}
use Rattle.live.proofs.received_seen.see.Goals as goal

pub returns-in-Ok-clause-settles : goal.returns-in-Ok-clause-settles
returns-in-Ok-clause-settles g c = λ all came front first bytes right reads begins.
    let message = c.args.message.now in
    let looked = c.in-Ok.ensures all first came front right reads in
    let some = take looked.read all.sent in
    let own = seen_at all.by (in_view all.window all.sent front) message in
    let known =
    ap (nat_lt message.hart) (sym reads.harts) ∙ sym c.is_known.ensures ∙ c.if-not-is_known.false in (
      c.seen_now.ensures some came front looked.reads.holds
          ∙ ap₂ (λ (h : By) (w : ℕ). seen_at h (in_view w some front) message (standing_of w some front message.hart message.number))
          looked.reads.by looked.reads.window
          ∙ seen_wide all.by all.window all.sent front looked.read message _ refl
          ∙ ap own looked.settled
          ∙ sym (ap (λ (b : Bool). if b then own (standing_of all.window all.sent front message.hart message.number)
          else seen.Neither) known),
      record {
        read = looked.read;
        reads = looked.reads;
        more = looked.more;
        sought = λ k from below.
            (0, omega arith, subst (IsWantedBy all front k) begins (looked.wanted k from below));
      },
    )

pub returns-in-Err-clause-settles : goal.returns-in-Err-clause-settles
returns-in-Err-clause-settles g c = λ all came front first bytes right reads begins.
    let stopped = c.in-Err.ensures all first came front right reads in
    let fails = stopped.fails in
    record {
      read = fails.read;
      more = stopped.more;
      within = let was = fails.was.count in omega (arith, was);
      sought = λ k from below. (0, omega arith, subst (IsWantedBy all front k) begins (stopped.wanted k from below));
      fault = fails.fault;
      remains = fails.remains;
    }

pub returns-then-not-is_known-clause-settles : goal.returns-then-not-is_known-clause-settles
returns-then-not-is_known-clause-settles g c = λ all came front first bytes right reads begins.
    let message = c.args.message.now in
    let unknown =
    ap (nat_lt message.hart) (sym reads.harts) ∙ sym c.is_known.ensures ∙ c.if-not-is_known.true in (
      sym (ap (λ (b : Bool). if b
          then seen_at all.by (in_view all.window all.sent front) message
          (standing_of all.window all.sent front message.hart message.number)
          else seen.Neither) unknown),
      follows_none all came front first bytes 1 c.args.window.now (g.S.SentSource.left c.args.source.now) reads,
    )
