-- What was made of each log, by its place.
use Rattle.std.specs.Prelude.{⊤, ◌≡◌, ◌⊎◌, ◌+◌, ◌++◌, ℕ, List, [], ◌∷◌, Option, Some, None, Result, Ok, Err, map}
use Rattle.retire.specs.declared.fault.LogFault.TheVariants.{Memory}
use Rattle.log_streams.specs.declared.stop.Stop.{Stop}
use Rattle.log_streams.specs.declared.stop.Stop.TheVariants as stop

-- What is known of a log at a place, if something is, may be so. The places are counted from this number on.
abbrev pub AreAllowedFrom : {X : Type 0} → (ℕ → Result X Stop → Type 0) → ℕ → List (Option (Result X Stop)) → Type 0
AreAllowedFrom Allows place [] = ⊤
AreAllowedFrom Allows place (None ∷ rest) = AreAllowedFrom Allows (place + 1) rest
AreAllowedFrom Allows place (Some made ∷ rest) = Allows place made × AreAllowedFrom Allows (place + 1) rest

-- This was made of a log.
abbrev pub was_made : {X : Type 0} → X → Option (Result X Stop)
was_made one = Some (Ok one)

-- This was made of the first logs, and this is known of the rest.
abbrev pub IsTakenUpTo : {X : Type 0} → List (Option (Result X Stop)) → List (Option (Result X Stop)) → List X → Type 0
IsTakenUpTo all rest made = all ≡ map was_made made ++ rest

-- Of the first logs this was made, and of the next one nothing is, for this reason.
pub record EndsAt {X : Type 0} (all : List (Option (Result X Stop))) (made : List X) (why : Stop) : Type 0 where
  pub one : Option (Result X Stop)
  pub rest : List (Option (Result X Stop))
  pub whole : IsTakenUpTo all (one ∷ rest) made
  pub reason : (why ≡ stop.Unread Memory) ⊎ (one ≡ Some (Err why))

-- This was made of the logs, up to the first of which nothing was made.
abbrev pub AreTaken : {X : Type 0} → List (Option (Result X Stop)) → List X → Result (Unit {0}) Stop → Type 0
AreTaken all made (Ok _) = IsTakenUpTo all [] made
AreTaken all made (Err why) = EndsAt all made why
