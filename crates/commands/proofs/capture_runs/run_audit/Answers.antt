-- The prover makes no record by itself: what is said of the subcommand's run is handed to it, with the joined reasons.
use Rattle.std.proofs.Common.{◌∙◌, sym}
use Rattle.std.proofs.lemmas.Bool.{false_from_ne_true}
use Rattle.path_commands.specs.Audited.{Audits, CanAudit, audit_meaning}
use Rattle.commands.specs.declared.reason.CommandReason.TheVariants.{Path}
use Rattle.commands.proofs.JoinedRuns.{joined_cut, joined_early, joined_prints}
use Rattle.commands.proofs.capture_runs.run_audit.Goals as goal

pub returns : goal.returns
returns g c =
    let content = g.F.Files.content c.args.files.now in
    let contents = g.O.Write.contents in
    let asked = c.args.asked.now in
    let out = c.args.out.now in
    let value = c.joined_end.ensures.value in record {
      cut = joined_cut Path (Audits content asked) (contents out) (contents c.audit.new.out) c.audit.ensures.cut;
      early = joined_early Path (audit_meaning asked).early c.audit.result c.joined_end.result value c.audit.ensures.early;
      printed = joined_prints Path (Audits content asked) (CanAudit content asked) c.audit.result c.joined_end.result
          (contents out) (contents c.audit.new.out) value c.audit.ensures.printed;
      begun = λ memory. c.audit.ensures.begun (c.joined_end.ensures.memory memory);
      untouched = λ whole memory. c.audit.ensures.untouched (false_from_ne_true asked.live whole)
          (c.joined_end.ensures.memory memory);
      refused = λ held ended. c.audit.ensures.refused (false_from_ne_true asked.live held)
          (sym c.joined_end.ensures.status ∙ ended);
    }
