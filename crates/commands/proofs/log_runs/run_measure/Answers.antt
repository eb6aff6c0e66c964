-- The prover makes no record by itself: what is said of the subcommand's run is handed to it, with the joined reasons.
use Rattle.std.proofs.Common.{◌∙◌, sym}
use Rattle.log_commands.specs.Measuring.{CanMeasure, Measures, measure_meaning}
use Rattle.commands.specs.declared.reason.CommandReason.TheVariants.{Log}
use Rattle.commands.proofs.JoinedRuns.{joined_cut, joined_early, joined_prints, keeps_same}
use Rattle.commands.proofs.log_runs.run_measure.Goals as goal

pub returns : goal.returns
returns g c =
    let content = g.F.Files.content c.args.files.now in
    let contents = g.O.Write.contents in
    let asked = c.args.asked.now in
    let out = c.args.out.now in
    let value = c.joined_end.ensures.value in record {
      cut = joined_cut Log (Measures content asked) (contents out) (contents c.measure.new.out) c.measure.ensures.cut;
      early = joined_early Log (measure_meaning asked).early c.measure.result c.joined_end.result value c.measure.ensures.early;
      printed = joined_prints Log (Measures content asked) (CanMeasure content asked) c.measure.result c.joined_end.result
          (contents out) (contents c.measure.new.out) value c.measure.ensures.printed;
      begun = λ memory. keeps_same contents out c.measure.new.out
          (c.measure.ensures.untouched (c.joined_end.ensures.memory memory));
      untouched = λ whole memory. c.measure.ensures.untouched (c.joined_end.ensures.memory memory);
      refused = λ other ended. c.measure.ensures.refused (sym c.joined_end.ensures.status ∙ ended);
    }
