-- The prover makes no product of so many parts: what each value is, is handed to it in order.
use Rattle.std.proofs.Common.{◌≡◌, List, Option, refl, subst, ℕ}
use Rattle.stimulus.specs.Mix.{IsNamed}
use Rattle.stimulus.specs.declared.mix.Mix.{Mix}
use Rattle.cli.specs.Asking.{IsGivenUpTo}
use Rattle.cli.proofs.asking.generate_asked.Goals as goal

named_so : (name text : List ℕ) (mix : Option Mix) → name ≡ text → IsNamed name mix → IsNamed text mix
named_so name text mix is named = subst (λ name. IsNamed name mix) is named

up_to : (most same : ℕ) (value : Option (List ℕ)) (given : Option ℕ) → most ≡ same → IsGivenUpTo most value given
    → IsGivenUpTo same value given
up_to most same value given is known = subst (λ most. IsGivenUpTo most value given) is known

pub returns : goal.returns
returns c = (
  refl,
  c.product.ensures,
  c.seed.ensures,
  named_so _ _ _ c.text.ensures c.named.ensures,
  c.text-2.ensures,
  c.given_first.ensures,
  up_to _ _ _ _ c.from.ensures c.given_long.ensures,
  c.given_up_to.ensures,
  c.given_long-2.ensures,
  c.given_up_to-2.ensures,
  c.mode.ensures,
  c.version.ensures,
  c.given_up_to-3.ensures,
)
