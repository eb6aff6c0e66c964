-- The prover makes no record by itself: what is said of the subcommand's run is handed to it, with the joined reasons.
use Rattle.std.proofs.Common.{◌∙◌, inl, inr, sym}
use Rattle.std.proofs.lemmas.Bool.{true_from_ne_false}
use Rattle.capture_commands.specs.Listed.{CanList, Lists, ListsInPart, list_meaning}
use Rattle.commands.specs.declared.reason.CommandReason.TheVariants.{Capture}
use Rattle.commands.proofs.JoinedRuns.{joined_cut, joined_early, joined_prints}
use Rattle.commands.proofs.capture_runs.run_list.Goals as goal

pub returns : goal.returns
returns g c =
    let content = g.F.Files.content c.args.files.now in
    let contents = g.O.Write.contents in
    let asked = c.args.asked.now in
    let out = c.args.out.now in
    let value = c.joined_end.ensures.value in record {
      cut = joined_cut Capture (ListsInPart content asked) (contents out) (contents c.list.new.out) c.list.ensures.cut;
      early = joined_early Capture (list_meaning asked).early c.list.result c.joined_end.result value c.list.ensures.early;
      printed = joined_prints Capture (Lists content asked) (CanList content asked) c.list.result c.joined_end.result
          (contents out) (contents c.list.new.out) value c.list.ensures.printed;
      begun = λ memory. c.list.ensures.begun (c.joined_end.ensures.memory memory);
      untouched = λ whole memory. c.list.ensures.untouched
          (inr (true_from_ne_false asked.salvage whole, c.joined_end.ensures.memory memory));
      refused = λ other ended. c.list.ensures.untouched (inl (sym c.joined_end.ensures.status ∙ ended));
    }
