-- What the header's line says of the log is named by hand.
use Rattle.std.proofs.Common.{◌∙◌, ap, subst, vec_items}
use Rattle.retire.specs.steps.Header.{HasHeader}
use Rattle.retire.proofs.ReaderLemmas.{names-read}
use Rattle.retire.proofs.log_reader.LogReader.read_names.Goals as goal

pub returns-in-Ok-clause-goes_on : goal.returns-in-Ok-clause-goes_on
returns-in-Ok-clause-goes_on g c = λ most seen h.
    names-read g.S.Source.given g.S.Source.left most seen c.args.self.now c.in-Some.rest.now c.swap.new.x c.swap.new.y
    h c.requires.header
    (subst (λ t. HasHeader c.args.self.now.is_ended t c.in-Some.rest.now) c.deref.ensures.value
    c.in-Some.ensures.header)
    (ap vec_items c.swap.ensures.x_after ∙ c.in-Ok.ensures.kept)
