use Rattle.std.proofs.Common.{◌≡◌, ◌≤◌}
use Rattle.crossbeam_channel.specs.Claims.{IsSeatAt}
use Rattle.crossbeam_channel.specs.Ends.{sends_on}
use Rattle.funnel.specs.Ends.{AreNewPorts}
use Rattle.funnel.specs.steps.Passes.{id_of, knows, taken_by_outlet, IsOutlet}
use Rattle.funnel.proofs.opening.ports_of.Given as goal

abbrev pub invariant-loop-hart : goal.invariant-loop-hart
invariant-loop-hart g l = record {
  seat : IsSeatAt (sends_on l.sender) l.pass;
  outlet : IsOutlet l.hart (knows l.pass);
  taken : taken_by_outlet (knows l.pass) ≡ taken_by_outlet (knows l.initial.pass);
  same : id_of l.pass ≡ id_of l.initial.pass;
  ports : AreNewPorts (id_of l.initial.pass) l.hart l.ports.items;
  room : l.harts ≤ l.ports.cap;
}
