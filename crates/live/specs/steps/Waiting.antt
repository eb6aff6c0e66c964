-- What waits is taken when the front meets it.
use Rattle.std.specs.Prelude.{ℕ, ◌==◌, Bool, false, if◌then◌else◌, List, Option, Some, None, slice_set}
use Rattle.live.specs.Auditing.{waiting_in}
use Rattle.live.specs.declared.arrived.Arrived.{Arrived}
use Rattle.live.specs.declared.held.SentMessage.{SentMessage}

-- What waits has this number.
abbrev pub has_this : ℕ → Option Arrived → Bool
has_this number None = false
has_this number (Some one) = one.message.number == number

-- None of this hart waits any more.
abbrev pub without : List (Option Arrived) → ℕ → List (Option Arrived)
without waiting hart = slice_set waiting hart None

-- What waits for this message of SENT, if it is there and something does.
abbrev pub met_one : List (Option Arrived) → Option SentMessage → Option Arrived
met_one waiting None = None
met_one waiting (Some slot) =
    if has_this slot.message.number (waiting_in waiting slot.message.hart) then waiting_in waiting slot.message.hart else
    None

-- What waits after that.
abbrev pub unmet : List (Option Arrived) → Option SentMessage → List (Option Arrived)
unmet waiting None = waiting
unmet waiting (Some slot) =
    if has_this slot.message.number (waiting_in waiting slot.message.hart) then without waiting slot.message.hart else
    waiting

-- The hart and the number of a message of SENT, if it is there.
abbrev pub numbering : Option SentMessage → Option (ℕ × ℕ)
numbering None = None
numbering (Some slot) = Some (slot.message.hart, slot.message.number)
