-- The prover does not join what is carried out with the exit status: each way there is gone by hand.
use Rattle.std.proofs.Common.{inl, inr, ap, ◌∙◌, sym, subst, map, string_bytes, Err}
use Rattle.command_inputs.specs.Status.{code_of}
use Rattle.command_inputs.specs.declared.fault.Fault.TheVariants as fault
use Rattle.commands.specs.Words.{ReportsFault}
use Rattle.commands.proofs.CarriedOut.{carried_out}
use Rattle.commands.proofs.program.command.Goals as goal
use Rattle.commands.proofs.program.command.Goals.{in-Ok, in-Err+in-Some-1, in-Err+in-None-1}

pub returns-clause-printed : goal.returns-clause-printed
returns-clause-printed g c =
    let content = g.F.Files.content c.args.files.now in
    let words = map string_bytes c.args.words.now in
    let err_contents = g.E.Write.contents in
    let contents = g.O.Write.contents in elim c.match-asked.branch [
      | in-Ok w ↦ inr
          (inr (carried_out contents err_contents content words w.in-Ok.asked w.run-status.result c.match-asked.status
          c.code.result c.args.out.now w.run-status.new.out c.match-asked.out c.args.err.now w.run-status.new.err
          c.match-asked.err
          w.in-Ok.ensures.found w.status-is c.code.ensures w.out-is w.err-is w.run-status.ensures.done))
      | in-Err+in-Some-1 w ↦ elim w.in-Err.ensures.fault [
        | inl memory ↦ inr (inl (
          c.code.ensures ∙ ap code_of (w.status-is ∙ w.report_words_error-status.ensures.memory memory),
          w.out-is,
          subst (λ e. ReportsFault err_contents (Err fault.Memory) c.args.err.now e) (sym w.err-is)
              (w.report_words_error-status.ensures.line memory),
        ))
        | inr refused ↦ inl refused
      ]
      | in-Err+in-None-1 w ↦ elim w.in-Err.ensures.fault [
        | inl memory ↦ inr (inl (
          c.code.ensures ∙ ap code_of (w.status-is ∙ w.report_words_error-status.ensures.memory memory),
          w.out-is,
          subst (λ e. ReportsFault err_contents (Err fault.Memory) c.args.err.now e) (sym w.err-is)
              (w.report_words_error-status.ensures.line memory),
        ))
        | inr refused ↦ inl refused
      ]
    ]
