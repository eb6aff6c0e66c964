-- The extent of a program begins at an even address: by a lemma on its pieces.
use Rattle.std.proofs.Common.{◌%◌, ◌∙◌, [], ap, subst}
use Rattle.stimulus.specs.Walk.{first_walk}
use Rattle.stimulus.specs.Walked.{HasWalked}
use Rattle.stimulus.specs.declared.walk.Extent.{Extent}
use Rattle.stimulus.proofs.WalkLemmas.{even_base}
use Rattle.stimulus.proofs.hart.Hart.new.Goals as goal

pub within-requires : goal.within-requires
within-requires c =
    ap (λ (extent : Extent). extent.base % 2) c.of.ensures.extent ∙ even_base c.args.program.now c.of.ensures.image

pub returns : goal.returns
returns c = λ words.
    subst (λ (extent : Extent). HasWalked words (first_walk extent c.args.mix c.args.seed c.args.number) [] c.within.result)
    c.of.ensures.extent (c.within.ensures words)
