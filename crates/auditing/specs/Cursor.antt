-- What is left of a hart's messages.
use Rattle.std.specs.Prelude.{ℕ, Bool, List}

-- The number of SENT that follows the last one matched, the flags of SENT from there on, and the flags of the messages
-- that are still to come.
pub record Cursor : Type 0 where
  pub number : ℕ
  pub sent : List Bool
  pub came : List Bool
