use Rattle.std.proofs.Common.{◌≡◌}
use Rattle.crossbeam_channel.specs.Ends.{sends_on}
use Rattle.funnel.specs.steps.Passes.{id_of, knows}
use Rattle.funnel.specs.steps.Sending.{MaySend}
use Rattle.funnel.proofs.port.wait_and_pass_on.Given as goal

abbrev pub invariant-loop : goal.invariant-loop
invariant-loop g l = record {
  may : MaySend (sends_on l.sender) l.pass l.message l.closing;
  funnel : id_of l.pass ≡ id_of l.initial.pass;
  known : knows l.pass ≡ knows l.initial.pass;
  same : l.message ≡ l.initial.message;
}
