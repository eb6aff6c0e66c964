-- The prover makes no record by itself: what is said of the subcommand's run is handed to it, with the joined reasons.
use Rattle.std.proofs.Common.{◌∙◌, sym}
use Rattle.capture_commands.specs.Comparing.{CanCompare, Compares, compare_meaning}
use Rattle.commands.specs.declared.reason.CommandReason.TheVariants.{Capture}
use Rattle.commands.proofs.JoinedRuns.{joined_cut, joined_early, joined_prints, keeps_same}
use Rattle.commands.proofs.capture_runs.run_compare.Goals as goal

pub returns : goal.returns
returns g c =
    let content = g.F.Files.content c.args.files.now in
    let contents = g.O.Write.contents in
    let asked = c.args.asked.now in
    let out = c.args.out.now in
    let value = c.joined_end.ensures.value in record {
      cut = joined_cut Capture (Compares content asked) (contents out) (contents c.compare.new.out)
          c.compare.ensures.cut;
      early = joined_early Capture (compare_meaning asked).early c.compare.result c.joined_end.result value
          c.compare.ensures.early;
      printed = joined_prints Capture (Compares content asked) (CanCompare content asked) c.compare.result
          c.joined_end.result (contents out) (contents c.compare.new.out) value c.compare.ensures.printed;
      begun = λ memory. keeps_same contents out c.compare.new.out
          (c.compare.ensures.untouched (c.joined_end.ensures.memory memory));
      untouched = λ whole memory. c.compare.ensures.untouched (c.joined_end.ensures.memory memory);
      refused = λ other ended. c.compare.ensures.refused (sym c.joined_end.ensures.status ∙ ended);
    }
