-- What the decoder promises is a record over a state that one more call left as it was.
use Rattle.std.proofs.Common.{subst}
use Rattle.losses.specs.steps.DecoderSteps.{Resumes}
use Rattle.losses.proofs.hart_trace.HartTrace.lose.Goals as goal

pub returns-clause-resumes : goal.returns-clause-resumes
returns-clause-resumes g c =
    subst (λ decoder. Resumes c.args.mode decoder c.resume.new.self) c.end_stretch.ensures.decoder
    (record { passes_over = c.resume.ensures.passes_over; mode_kept = c.resume.ensures.mode_kept })
