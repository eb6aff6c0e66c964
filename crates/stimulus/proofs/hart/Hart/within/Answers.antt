-- The clause holds for any program, which the search does not instantiate.
use Rattle.std.proofs.Common.{◌∙◌, ap, arith, refl, subst, sym}
use Rattle.std.proofs.Common.{[], None}
use Rattle.std.proofs.lemmas.List.Elements.{All-nil}
use Rattle.retire.specs.Is64Bit.{Is64Bit}
use Rattle.stimulus.specs.Walk.{first_walk}
use Rattle.stimulus.specs.Walked.{MayGoOn}
use Rattle.stimulus.proofs.WalkLemmas.{first_goes_on, walked_none}
use Rattle.stimulus.proofs.hart.Hart.within.Goals as goal

pub returns : goal.returns
returns c = λ words.
    let start = first_walk c.args.extent c.args.mix c.args.seed c.args.number in record {
      walked = ap (λ walk. ([], walk)) c.new.ensures ∙ walked_none words start;
      counted = refl;
      legal = tt;
      goes_on = subst (MayGoOn words None) (sym c.new.ensures)
          (first_goes_on words c.args.extent c.args.mix c.args.seed c.args.number c.requires);
      numbers = All-nil Is64Bit;
      short = omega arith;
    }
