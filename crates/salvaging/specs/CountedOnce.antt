-- Each message is counted once.
use Rattle.std.specs.Prelude.{ℕ, ◌≡◌, ◌+◌, List, Some, count_by, length, slice_get, sum_by}
use Rattle.message.specs.declared.message.Message.{Message}
use Rattle.salvaging.specs.PartsIn.{parts_in}
use Rattle.salvaging.specs.Strangers.{own_messages}
use Rattle.salvaging.specs.TreatedCounts.{is_alone_number, is_bad_number}
use Rattle.salvaging.specs.declared.salvaged.SalvagedHart.{SalvagedHart}
use Rattle.salvaging.specs.declared.salvaged.Salvaged.{Salvaged}

-- How many numbers of a hart are bad, and how many stand alone.
abbrev pub bad_of : {A : Type 0} → SalvagedHart A → ℕ
bad_of own = count_by is_bad_number (parts_in own.parts.items)

abbrev pub alone_of : {A : Type 0} → SalvagedHart A → ℕ
alone_of own = count_by is_alone_number (parts_in own.parts.items)

-- How many messages of a hart are decoded, passed over, bad, alone, of doubtful numbers, or copies.
abbrev pub counted_of : {A : Type 0} → SalvagedHart A → ℕ
counted_of own = own.decoded + own.passed + (bad_of own + alone_of own) + own.doubtful + own.copies

-- Each of these messages is counted once: each message of a hart is one of these, and all others are strangers.
pub record AreCountedOnce {A : Type 0} (messages : List Message) (salvaged : Salvaged A) : Type 0 where
  pub each : (hart : ℕ) (own : SalvagedHart A) → slice_get salvaged.harts.items hart ≡ Some own
      → counted_of own ≡ length (own_messages hart messages)
  pub all : length messages ≡ salvaged.strangers + sum_by counted_of salvaged.harts.items
