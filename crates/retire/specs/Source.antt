-- What a source of bytes gives.
use Rattle.std.specs.Prelude.{◌≡◌, ◌++◌, ℕ, List, take, MatchResult, Result}

-- A read of a source gave the bytes at the front of the buffer after those that it gave before, or failed and gave
-- none.
abbrev pub GivesMore : {E : Type 0} → List ℕ → List ℕ → Result ℕ E → List ℕ → Type 0
GivesMore old new result buffer = MatchResult result (λ count. new ≡ old ++ take count buffer) (λ _. new ≡ old)
