-- A count of rows that is given is at most what 32 bits hold.
use Rattle.std.proofs.Common.{◌≡◌, ◌≤◌, ◌∙◌, arith, ap, refl, subst, sym, ℕ}
use Rattle.stimulus.specs.declared.logging.Log.{Log}
use Rattle.log_commands.proofs.Generated.{at_most}
use Rattle.log_commands.specs.Generating.{log_asked}
use Rattle.log_commands.proofs.generating.log_asked.Goals as goal

pub returns : goal.returns
returns c =
    let few : c.unwrap_or-2.result ≤ 4294967295 = subst (λ n. n ≤ 4294967295) (sym c.unwrap_or-2.ensures)
    (at_most 4294967295 1000000 c.args.asked.now.events c.requires.1 (omega arith)) in
    ap (λ (events : ℕ). record {
      mix = c.args.mix;
      seed = c.args.asked.now.seed;
      hart = c.unwrap_or.result;
      events = events;
    }) c.unwrap_or-2.ensures
    ∙ ap (λ (hart : ℕ). record {
      mix = c.args.mix;
      seed = c.args.asked.now.seed;
      hart = hart;
      events = (log_asked c.args.asked.now c.args.mix).events;
    }) c.unwrap_or.ensures
