-- Messages that are counted one by one.
use Rattle.std.specs.Prelude.{ℕ, ◌+◌, ◌-◌, ◌^◌, ◌≡◌, ◌≢◌, nat_lt, Bool, true, List, Option, Some, None, length, min, slice_get}
use Rattle.captures.specs.declared.outcome.CaptureFault.{CaptureFault}
use Rattle.captures.specs.steps.Reading.{AreReadUpTo}
use Rattle.message.specs.declared.fault.MessageFault.{MessageFault}
use Rattle.message.specs.declared.message.Message.{Message}
use Rattle.comparing.specs.Counts.{AreCounts, before_stop}
use Rattle.comparing.specs.declared.hart_count.HartCount.{HartCount}

-- The greatest count.
abbrev pub most : ℕ
most = 2 ^ 64 - 1

-- The count of a hart with one message more.
abbrev pub one_more : Message → HartCount → HartCount
one_more message count = record {
  taken = min (count.taken + 1) most;
  bytes = min (count.bytes + length message.payload) most;
}

-- The message is counted: the count of its hart, if there is one, has it, and the others stay.
pub record AreCountedOn (message : Message) (old new : List HartCount) : Type 0 where
  pub many : length new ≡ length old
  pub own : (count : HartCount) → slice_get old message.hart ≡ Some count
      → slice_get new message.hart ≡ Some (one_more message count)
  pub others : (hart : ℕ) → hart ≢ message.hart → slice_get new hart ≡ slice_get old hart

-- The message with this number comes before the one at which decoding stops.
abbrev pub comes_before : Option (ℕ × CaptureFault) → ℕ → Bool
comes_before None number = true
comes_before (Some stop) number = nat_lt number stop.0

-- These are the counts of so many harts among the messages of some bytes before decoding stops.
pub record AreCountedUpTo (bytes : List ℕ) (harts : ℕ) (stop : Option (ℕ × CaptureFault)) (counts : List HartCount)
    : Type 0 where
  pub messages : List Message
  pub end : Option MessageFault
  pub read : AreReadUpTo bytes messages end
  pub are : AreCounts harts (before_stop stop messages) counts
