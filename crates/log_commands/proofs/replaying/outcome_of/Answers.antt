-- What is received of each hart is put into a list by a lemma.
use Rattle.std.proofs.Common.{refl, sym}
use Rattle.log_commands.specs.Sending.{config_at}
use Rattle.log_commands.proofs.Gots.{are_got}
use Rattle.log_commands.proofs.replaying.outcome_of.Goals as goal

pub returns-in-Ok-clause-came : goal.returns-in-Ok-clause-came
returns-in-Ok-clause-came c =
    let outcome = c.in-Ok.outcome in
    are_got (config_at c.args.asked.now.period c.args.asked.now.mode c.args.asked.now.capacity) c.args.logs.now _
    outcome.harts.items outcome.stop refl (sym c.in-Ok.ensures.beginnings.count) c.in-Ok.ensures.taken
    c.in-Ok.ensures.lacks c.in-Ok.ensures.stop
