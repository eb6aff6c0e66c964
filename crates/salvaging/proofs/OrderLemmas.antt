-- The order of messages with their places.
use Rattle.std.proofs.Common.{◌≡◌, inl, inr, ℕ, ◌≤◌, All, List, [], ◌∷◌, sym, subst, ◌∙◌, arith}
use Rattle.std.proofs.Common.{ap}
use Rattle.std.specs.Cmp.Lexicographic.{slice_cmp}
use Rattle.std.specs.Ordering.{nat_cmp, ordering_reverse}
use Rattle.std.specs.declared.cmp.Ordering.TheVariants.{Less}
use Rattle.std.proofs.lemmas.Cmp.{nat_list_cmp_total}
use Rattle.std.proofs.lemmas.List.Elements.{All-head, All-tail}
use Rattle.salvaging.specs.steps.Arrivals.{Arrival, IsUpTo, IsUpToByPayload}
use Rattle.salvaging.proofs.Members.{IsIn}

-- Of all of these it holds.
abbrev pub Each : {X : Type 0} → (X → Type 0) → List X → Type 0
Each P [] = Unit {0}
Each P (x ∷ xs) = P x × Each P xs

pub each_of_all : {X : Type 0} (P : X → Type 0) (xs : List X) → All P xs → Each P xs
each_of_all P [] all = tt
each_of_all P (x ∷ xs) all = (All-head P x xs all, each_of_all P xs (All-tail P x xs all))

pub each_in : {X : Type 0} (P : X → Type 0) (xs : List X) (x : X) → Each P xs → IsIn x xs → P x
each_in P [] x each one = absurd one
each_in P (y ∷ xs) x each (inl is) = subst P (sym is) each.0
each_in P (y ∷ xs) x each (inr one) = each_in P xs x each.1 one

-- Of two payloads one comes first.
not_both : (one other : List ℕ) → slice_cmp nat_cmp one other ≡ Less → slice_cmp nat_cmp other one ≡ Less → ⊥
not_both one other less more =
    let back = nat_list_cmp_total.antisymm one other in
    let never : Less ≡ ordering_reverse Less = sym less ∙ back ∙ ap ordering_reverse more in
    cc

-- Two messages have the same number and the same payload.
pub record AreAlikeHere (one other : Arrival) : Type 0 where
  pub number : one.message.number ≡ other.message.number
  pub payload : one.message.payload ≡ other.message.payload

pub alike_back : (one other : Arrival) → AreAlikeHere one other → AreAlikeHere other one
alike_back one other alike = record { number = sym alike.number; payload = sym alike.payload }

pub alike_both : (one other last : Arrival) → AreAlikeHere one other → AreAlikeHere other last
    → AreAlikeHere one last
alike_both one other last a b = record { number = a.number ∙ b.number; payload = a.payload ∙ b.payload }

-- What stands between two with the same number and payload has them too.
pub between : (one other last : Arrival) → IsUpTo one other → IsUpTo other last → AreAlikeHere one last
    → AreAlikeHere one other
between one other last (inl below) (inl above) alike =
    let same = alike.number in absurd (omega (arith, below, above, same))
between one other last (inl below) (inr (is, above)) alike =
    let same = alike.number in absurd (omega (arith, below, is, same))
between one other last (inr (is, below)) (inl above) alike =
    let same = alike.number in absurd (omega (arith, is, above, same))
between one other last (inr (is, below)) (inr (is_too, above)) alike =
    record { number = is; payload = by_payloads below above }
  where
    by_payloads : IsUpToByPayload one other → IsUpToByPayload other last
        → one.message.payload ≡ other.message.payload
    by_payloads (inr (same, earlier)) above = same
    by_payloads (inl less) (inr (same, earlier)) = alike.payload ∙ sym same
    by_payloads (inl less) (inl more) =
        absurd (not_both one.message.payload other.message.payload less
        (subst (λ l. slice_cmp nat_cmp other.message.payload l ≡ Less) (sym alike.payload) more))

-- Of two with the same number and payload the first came first.
pub came_first : (one other : Arrival) → IsUpTo one other → AreAlikeHere one other → one.place ≤ other.place
came_first one other (inl below) alike = let same = alike.number in absurd (omega (arith, below, same))
came_first one other (inr (is, inr (same, earlier))) alike = earlier
came_first one other (inr (is, inl less)) alike =
    let twice : slice_cmp nat_cmp other.message.payload other.message.payload ≡ Less =
    subst (λ l. slice_cmp nat_cmp l other.message.payload ≡ Less) alike.payload less in
    absurd (not_both other.message.payload other.message.payload twice twice)

-- The number of what stands behind is no lower.
pub no_lower : (one other : Arrival) → IsUpTo one other → one.message.number ≤ other.message.number
no_lower one other (inl below) = omega (arith, below)
no_lower one other (inr (is, later)) = omega (arith, is)
