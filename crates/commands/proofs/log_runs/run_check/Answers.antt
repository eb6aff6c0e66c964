-- The prover makes no record by itself: what is said of the subcommand's run is handed to it, with the joined reasons.
use Rattle.log_commands.specs.Checking.{CanCheck, Checks, ChecksFirst, check_meaning}
use Rattle.commands.specs.declared.reason.CommandReason.TheVariants.{Log}
use Rattle.commands.proofs.JoinedRuns.{joined_cut, joined_early, joined_prints}
use Rattle.commands.proofs.log_runs.run_check.Goals as goal

pub returns : goal.returns
returns g c =
    let content = g.F.Files.content c.args.files.now in
    let contents = g.O.Write.contents in
    let asked = c.args.asked.now in
    let out = c.args.out.now in
    let value = c.joined_end.ensures.value in record {
      cut = joined_cut Log (ChecksFirst content asked) (contents out) (contents c.check.new.out) c.check.ensures.cut;
      early = joined_early Log (check_meaning asked).early c.check.result c.joined_end.result value c.check.ensures.early;
      printed = joined_prints Log (Checks content asked) (CanCheck content asked) c.check.result c.joined_end.result
          (contents out) (contents c.check.new.out) value c.check.ensures.printed;
      begun = λ memory. c.check.ensures.begun (c.joined_end.ensures.memory memory);
      untouched = λ whole memory. absurd (whole tt);
      refused = λ other ended. absurd (other tt);
    }
