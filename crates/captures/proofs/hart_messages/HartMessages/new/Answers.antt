-- The search does not go into a clause that holds of any program.
use Rattle.std.proofs.Common.{refl}
use Rattle.captures.proofs.hart_messages.HartMessages.new.Goals as goal

pub returns : goal.returns
returns g c = λ words. record {
  stands = c.new.ensures words;
  written = record { of_hart = refl; number = refl; bytes = c.new-2.ensures.items };
  first = λ closed. refl;
}
