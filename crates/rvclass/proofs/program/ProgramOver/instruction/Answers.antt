-- The instruction that was fetched is the one of the image, by a lemma.
use Rattle.std.proofs.Common.{◌∙◌, ap, subst}
use Rattle.rvclass.specs.FetchedBytes.{BeginsWithHalf}
use Rattle.rvclass.proofs.FetchLemmas.{instruction_by}
use Rattle.rvclass.specs.steps.ByFetch.{instruction_by_fetch}
use Rattle.rvclass.proofs.program.ProgramOver.instruction.Goals as goal

pub returns : goal.returns
returns c =
    rw (← c.self.view_is)
    (c.instruction_from.ensures ∙ ap (instruction_by_fetch c.args.addr) c.fetch.ensures.what
    ∙ instruction_by _ c.args.addr (subst (BeginsWithHalf _ c.args.addr) c.fetch.ensures.what c.fetch.ensures.low))
