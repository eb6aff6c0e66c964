-- What a caller's buffer holds after a call.
use Rattle.std.specs.Prelude.{ℕ, ◌≡◌, ◌<◌, ◌≤◌, ◌++◌, List, drop, length}
use Rattle.ffi.specs.declared.status.TheConstants.{DONE, TOO_SMALL}

-- So many bytes, or numbers, were wanted. Where they fit into the buffer, they are at its start, what was after them
-- stays, and all is done. Where they do not, the buffer is as it was, and is too small.
pub record IsHandedOut {X : Type 0} (xs : List X) (status wanted : ℕ) (old new : List X) : Type 0 where
  pub count : wanted ≡ length xs
  pub fits : length xs ≤ length old → (status ≡ DONE) × (new ≡ xs ++ drop (length xs) old)
  pub small : length old < length xs → (status ≡ TOO_SMALL) × (new ≡ old)
