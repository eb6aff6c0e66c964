-- What is said of a slot is known of it.
use Rattle.std.proofs.Props.{props}
use Rattle.std.proofs.lemmas.Grind.{merely}
use mathlib.Core.Logic.{∥∥₁_elim}
use Rattle.parallel_decode.specs.declared.slot.Slot.{Slot}
use Rattle.parallel_decode.specs.declared.stretch.Plan.{Plan}
use Rattle.parallel_decode.specs.steps.Filled.{IsFilled}
use Rattle.parallel_decode.specs.steps.Shelves.{ShelvesHold}
use Rattle.parallel_decode.specs.steps.Stretches.{HaveTexts}

module _ (plan : Plan) where
  filled_prop : (slot : Slot) → IsProp (IsFilled plan slot)
  filled_prop slot = Prim.hlevel props

  pub shelves_hold : HaveTexts plan → ShelvesHold (IsFilled plan) plan
  shelves_hold have = record {
    sound = have;
    said = λ slot filled. merely filled;
    known = λ slot mere. ∥∥₁_elim mere (filled_prop slot) (λ filled. filled);
  }
