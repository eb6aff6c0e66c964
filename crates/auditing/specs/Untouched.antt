-- Harts of which nothing was lost, repeated, reordered or changed.
use Rattle.std.specs.Prelude.{ℕ, ◌≡◌, ◌==◌, ◌&&◌, Bool, not, false, List, []}
use Rattle.std.specs.List.{list_any}
use Rattle.message.specs.declared.message.Message.{Message}
use Rattle.auditing.specs.Judged.{Judged, is_fate, judged}
use Rattle.auditing.specs.Losing.{lost_numbers}
use Rattle.auditing.specs.declared.fate.Fate.TheVariants.{InOrder}

-- A message is of this hart and has another fate than in order.
abbrev pub is_touched : ℕ → Judged → Bool
is_touched hart one = one.message.hart == hart && not (is_fate InOrder one.fate)

-- Nothing happened to the messages of a hart: no number of it is lost, and none of its messages in RECEIVED is
-- repeated, late, changed or a stranger.
pub record IsUntouched (sent received : List Message) (hart : ℕ) : Type 0 where
  pub none_lost : lost_numbers sent received hart ≡ []
  pub in_order : list_any (is_touched hart) (judged sent received) ≡ false
