-- The clause holds for any program, which the search does not instantiate.
use Rattle.std.proofs.Common.{[], subst, sym}
use Rattle.encoder.specs.EncoderStands.{EncoderStands}
use Rattle.stimulus.proofs.TraceLemmas.{given_none}
use Rattle.stimulus.proofs.sender.Tracer.new.Goals as goal

pub returns : goal.returns
returns c = λ words plan number same_period same_mode walked.
    given_none words plan number c.args.hart c.new.result walked
    (subst (λ period. EncoderStands words period plan.mode [] c.new.result) (sym same_period)
    (subst (λ mode. EncoderStands words c.args.period mode [] c.new.result) (sym same_mode) (c.new.ensures words)))
