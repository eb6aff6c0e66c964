-- Slots that threads share.
use Rattle.parallel_decode.specs.declared.slot.Slot.{Slot}
use Rattle.parallel_decode.specs.declared.stretch.Plan.{Plan}
use Rattle.parallel_decode.specs.steps.Filled.{IsFilled}
use Rattle.parallel_decode.specs.steps.Stretches.{HaveTexts}

-- The stretches have texts, and what is said of a slot is that it has what the stretch at its place adds.
pub record ShelvesHold (holds : Slot → Type 0) (plan : Plan) : Type 0 where
  pub sound : HaveTexts plan
  pub said : (slot : Slot) → IsFilled plan slot → ∥ holds slot ∥₁
  pub known : (slot : Slot) → ∥ holds slot ∥₁ → IsFilled plan slot
