-- The prover makes no record by itself: what is said of the subcommand's run is handed to it, with the joined reasons.
use Rattle.std.proofs.Common.{◌∙◌, inl, inr, sym}
use Rattle.std.proofs.lemmas.Bool.{false_from_ne_true}
use Rattle.capture_commands.specs.Decoded.{CanDecode, Decodes, decode_meaning}
use Rattle.commands.specs.declared.reason.CommandReason.TheVariants.{Capture}
use Rattle.commands.proofs.JoinedRuns.{joined_cut, joined_early, joined_prints}
use Rattle.commands.proofs.capture_runs.run_decode.Goals as goal

pub returns : goal.returns
returns g c =
    let content = g.F.Files.content c.args.files.now in
    let contents = g.O.Write.contents in
    let asked = c.args.asked.now in
    let out = c.args.out.now in
    let value = c.joined_end.ensures.value in record {
      cut = joined_cut Capture (Decodes content asked) (contents out) (contents c.decode.new.out) c.decode.ensures.cut;
      early = joined_early Capture (decode_meaning asked).early c.decode.result c.joined_end.result value c.decode.ensures.early;
      printed = joined_prints Capture (Decodes content asked) (CanDecode content asked) c.decode.result c.joined_end.result
          (contents out) (contents c.decode.new.out) value c.decode.ensures.printed;
      begun = λ memory. c.decode.ensures.begun (c.joined_end.ensures.memory memory);
      untouched = λ whole memory. c.decode.ensures.untouched
          (inr (false_from_ne_true asked.lossy whole, c.joined_end.ensures.memory memory));
      refused = λ other ended. c.decode.ensures.untouched (inl (sym c.joined_end.ensures.status ∙ ended));
    }
