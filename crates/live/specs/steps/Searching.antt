-- Looking a message up in what is held.
use Rattle.std.specs.Prelude.{ℕ, Bool, false, List, Option, Some, None, slice_get}
use Rattle.message.specs.declared.message.Message.{Message}
use Rattle.auditing.specs.Fates.{is_numbered}
use Rattle.live.specs.declared.held.SentMessage.{SentMessage}

-- There is a message, of this hart and with this number.
abbrev pub is_slot : ℕ → ℕ → Option SentMessage → Bool
is_slot hart number None = false
is_slot hart number (Some slot) = is_numbered hart number slot.message

-- The message at this place is of this hart and has this number.
abbrev pub is_at : List SentMessage → ℕ → ℕ → ℕ → Bool
is_at slots hart number place = is_slot hart number (slice_get slots place)

-- The message of SENT, if there is one, is of this hart and has this number.
abbrev pub is_one : ℕ → ℕ → Option Message → Bool
is_one hart number None = false
is_one hart number (Some message) = is_numbered hart number message
