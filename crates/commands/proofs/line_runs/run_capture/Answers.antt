-- The prover makes no record by itself: what is said of the subcommand's run is handed to it, with the joined reasons.
use Rattle.std.proofs.Common.{◌∙◌, sym}
use Rattle.std.proofs.lemmas.Bool.{false_from_ne_true}
use Rattle.command_inputs.specs.Kind.{is_streamed}
use Rattle.path_commands.specs.Capturing.{CanCapture, Captures, capture_meaning}
use Rattle.commands.specs.declared.reason.CommandReason.TheVariants.{Line}
use Rattle.commands.proofs.JoinedRuns.{joined_cut, joined_early, joined_prints}
use Rattle.commands.proofs.line_runs.run_capture.Goals as goal

pub returns : goal.returns
returns g c =
    let content = g.F.Files.content c.args.files.now in
    let contents = g.O.Write.contents in
    let asked = c.args.asked.now in
    let out = c.args.out.now in
    let value = c.joined_end.ensures.value in record {
      cut = joined_cut Line (Captures content asked) (contents out) (contents c.capture.new.out) c.capture.ensures.cut;
      early = joined_early Line (capture_meaning asked).early c.capture.result c.joined_end.result value
          c.capture.ensures.early;
      printed = joined_prints Line (Captures content asked) (CanCapture content asked) c.capture.result
          c.joined_end.result (contents out) (contents c.capture.new.out) value c.capture.ensures.printed;
      begun = λ memory. c.capture.ensures.begun (c.joined_end.ensures.memory memory);
      untouched = λ whole memory. c.capture.ensures.untouched (false_from_ne_true (is_streamed asked) whole)
          (c.joined_end.ensures.memory memory);
      refused = λ held ended. c.capture.ensures.refused (false_from_ne_true (is_streamed asked) held)
          (sym c.joined_end.ensures.status ∙ ended);
    }
