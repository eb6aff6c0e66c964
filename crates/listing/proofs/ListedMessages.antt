-- The effects of messages and one more.
use Rattle.std.proofs.Common.{◌++◌, List, [], ◌∷◌, sym, subst, append-nil, append_assoc}
use Rattle.rvclass.specs.Words.{Words}
use Rattle.message.specs.declared.message.Message.{Message}
use Rattle.listing.specs.Effect.{Effect, HasEffect, HaveEffects}

-- Effects of messages, and that of one more.
pub effects-next : (words : Words) (before messages : List Message) (effects : List Effect) (message : Message)
    (effect : Effect) → HaveEffects words before messages effects
    → HasEffect words (before ++ messages) message effect
    → HaveEffects words before (messages ++ message ∷ []) (effects ++ effect ∷ [])
effects-next words before [] [] message effect have has =
    (subst (λ front. HasEffect words front message effect) (append-nil before) has, tt)
effects-next words before [] (e ∷ effects) message effect have has = absurd have
effects-next words before (m ∷ messages) [] message effect have has = absurd have
effects-next words before (m ∷ messages) (e ∷ effects) message effect have has = (
  have.0,
  effects-next words (before ++ m ∷ []) messages effects message effect have.1
      (subst (λ front. HasEffect words front message effect) (sym (append_assoc before (m ∷ []) messages)) has),
)
