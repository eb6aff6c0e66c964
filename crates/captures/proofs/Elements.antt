-- What holds of each element of a list holds of some of them.
use Rattle.std.proofs.Common.{All, List, ◌∷◌, ◌++◌, length, refl, subst}
use Rattle.std.proofs.lemmas.List.{drop_at}
use Rattle.std.proofs.lemmas.List.Elements.{All-drop, All-head}

-- It holds of each behind the first ones.
pub All-behind : {X : Type 0} (P : X → Type 0) (front rest : List X) → All P (front ++ rest) → All P rest
All-behind P front rest all =
    subst (All P) (drop_at front rest (length front) refl) (All-drop P (length front) (front ++ rest) all)

-- It holds of one in the middle.
pub All-middle : {X : Type 0} (P : X → Type 0) (front : List X) (x : X) (rest : List X) → All P (front ++ x ∷ rest)
    → P x
All-middle P front x rest all = All-head P x rest (All-behind P front (x ∷ rest) all)
