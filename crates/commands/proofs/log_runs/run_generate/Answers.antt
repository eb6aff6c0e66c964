-- The prover makes no record by itself: what is said of the subcommand's run is handed to it, with the joined reasons.
use Rattle.std.proofs.Common.{◌∙◌, sym}
use Rattle.log_commands.specs.Generating.{CanGenerate, Generates, GeneratesFront, generate_meaning}
use Rattle.commands.specs.declared.reason.CommandReason.TheVariants.{Log}
use Rattle.commands.proofs.JoinedRuns.{joined_cut, joined_early, joined_prints, keeps_same}
use Rattle.commands.proofs.log_runs.run_generate.Goals as goal

pub returns : goal.returns
returns g c =
    let contents = g.O.Write.contents in
    let asked = c.args.asked.now in
    let out = c.args.out.now in
    let value = c.joined_end.ensures.value in record {
      cut = joined_cut Log (GeneratesFront asked) (contents out) (contents c.generate.new.out) c.generate.ensures.cut;
      early = joined_early Log (generate_meaning asked).early c.generate.result c.joined_end.result value
          c.generate.ensures.early;
      printed = joined_prints Log (Generates asked) (CanGenerate asked) c.generate.result c.joined_end.result
          (contents out) (contents c.generate.new.out) value c.generate.ensures.printed;
      begun = λ memory. keeps_same contents out c.generate.new.out
          (c.generate.ensures.untouched (c.joined_end.ensures.memory memory));
      untouched = λ whole memory. c.generate.ensures.untouched (c.joined_end.ensures.memory memory);
      refused = λ other ended. c.generate.ensures.refused (sym c.joined_end.ensures.status ∙ ended);
    }
