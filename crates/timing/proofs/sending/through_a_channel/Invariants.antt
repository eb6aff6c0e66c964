use Rattle.crossbeam_channel.specs.Claims.{IsSeatAt}
use Rattle.crossbeam_channel.specs.Ends.{sends_on, receives_on}
use Rattle.timing.proofs.sending.through_a_channel.Given as goal

abbrev pub invariant-loop-number : goal.invariant-loop-number
invariant-loop-number g l = record {
  sends : IsSeatAt (sends_on l.sender) l.pass;
  takes : IsSeatAt (receives_on l.receiver) l.pass;
}
