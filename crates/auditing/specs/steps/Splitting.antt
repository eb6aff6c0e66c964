-- The payloads of messages, by hart.
use Rattle.std.specs.Prelude.{ℕ, ◌≡◌, ◌++◌, List, [], ◌∷◌, Option, Some, None, length, slice_get, slice_index_or, slice_set}
use Rattle.auditing.specs.Matches.{Flags, Matches, MatchesBeginning}

-- The lists with one payload more of a hart that has a list, if it has one.
abbrev pub added_found : List (List (List ℕ)) → ℕ → List ℕ → Option (List (List ℕ)) → List (List (List ℕ))
added_found lists hart payload None = lists
added_found lists hart payload (Some own) = slice_set lists hart (own ++ payload ∷ [])

-- The lists with one payload more of this hart.
abbrev pub added : List (List (List ℕ)) → ℕ → List ℕ → List (List (List ℕ))
added lists hart payload = added_found lists hart payload (slice_get lists hart)

-- The lists of each hart are aligned.
pub record AreAlignedLists (sent came : List (List (List ℕ))) (all : List Flags) : Type 0 where
  pub count : length all ≡ length sent
  pub each : (hart : ℕ) (flags : Flags) → slice_get all hart ≡ Some flags
      → Matches (slice_index_or sent hart []) (slice_index_or came hart []) flags
      × MatchesBeginning (slice_index_or sent hart []) (slice_index_or came hart []) flags
