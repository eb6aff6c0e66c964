-- What a thread makes of logs.
use Rattle.std.proofs.Common.{◌≡◌, ◌++◌, ◌∙◌, ℕ, List, [], ◌∷◌, Bool, true, false, Result, Some, All, if◌then◌else◌, sym}
use Rattle.std.proofs.Common.{◌<◌, IfErr, slice_get, slice_index_or, length, ap, subst}
use Rattle.std.proofs.lemmas.List.Elements.{All-push}
use Rattle.std.proofs.lemmas.Option.{slice_get-get_or}
use Rattle.std.specs.Borrow.{Bor}
use Rattle.log_streams.specs.Refusing.{MayStop}
use Rattle.log_streams.specs.steps.Allowed.{MayBeMade}
use Rattle.log_streams.specs.declared.stop.Stop.{Stop}

same-path : (path other : Bor (List ℕ)) → Some path ≡ Some other → path ≡ other
same-path path other same = cc same

-- What a list lends at a place is there.
pub at-get : {A : Type 0} (all : List A) (place : ℕ) (one : A) → place < length all → one ≡ slice_index_or all place one
    → slice_get all place ≡ Some one
at-get all place one few is = slice_get-get_or all place one few ∙ ap Some (sym is)

-- What is made of the log at a path may be made at its place.
pub at-place : {X : Type 0} (IsMade : List ℕ → ℕ → Result X Stop → Type 0) (MayRefuse : Type 0)
    (paths : List (Bor (List ℕ))) (place : ℕ) (made : Result X Stop) (path : Bor (List ℕ))
    → slice_get paths place ≡ Some path → IsMade path.now place made → IfErr made (MayStop MayRefuse)
    → MayBeMade IsMade MayRefuse paths place made
at-place IsMade MayRefuse paths place made path at is may = (
  λ other same. subst (λ path. IsMade path.now place made) (same-path path other (sym at ∙ same)) is,
  may,
)

-- What all items of a list have, and one more, all items have where it was added or was not.
pub added : {A : Type 0} (P : A → Type 0) (old : List A) (one : A) (is_added : Bool) (all : List A)
    → all ≡ (if is_added then old ++ one ∷ [] else old) → All P old → P one → All P all
added P old one true all is holds new = subst (All P) (sym is) (All-push P old one holds new)
added P old one false all is holds new = subst (All P) (sym is) holds
