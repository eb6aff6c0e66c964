-- What is held agrees with a state where RECEIVED is read on.
use Rattle.std.proofs.Common.{ℕ, List, Result, Ok, Err}
use Rattle.live.specs.Auditing.{LiveHolding, Stands, StandsOn}
use Rattle.live.specs.Following.{Audited, Left}
use Rattle.live.specs.Holding.{Holding}
use Rattle.live.specs.Live.{State}
use Rattle.live.specs.ReceivedLeft.{FollowsOn}
use Rattle.live.specs.declared.fault.ReceivedFault.{ReceivedFault}
use Rattle.live.specs.declared.fault.ReceivedFault.TheVariants as received
use Rattle.live.proofs.Widening.{stands_reads}

pub stands_on : {X : Type 0} (all : Audited) (read : ℕ) (state : State) (own : LiveHolding) (left : Left)
    → Stands all read state own left → (bytes : List ℕ) (most : ℕ) (result : Result X ReceivedFault) (new : Holding)
    (after : Left) → FollowsOn all state.came state.front read bytes most result new after
    → StandsOn all read state bytes most result (record own { window = new }) after
stands_on all read state own left stands bytes most (Ok found) new after follows = (
  follows.read,
  stands_reads all read state own left stands follows.read state.came state.front new after follows.reads,
  follows.more,
  follows.sought,
)
stands_on all read state own left stands bytes most (Err (received.File why)) new after follows = tt
stands_on all read state own left stands bytes most (Err (received.Sent why)) new after follows = follows
