-- What holds of each new port follows from all of them by a lemma.
use Rattle.funnel.proofs.NewPorts.{new_ports_each}
use Rattle.funnel.proofs.opening.open.Goals as goal

pub returns-in-Ok-clause-each : goal.returns-in-Ok-clause-each
returns-in-Ok-clause-each g c = new_ports_each _ _ _ c.in-Ok.ensures.ports
