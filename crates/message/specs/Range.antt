-- The harts of a range, and the messages of these.
use Rattle.std.specs.Prelude.{ℕ, ◌≡◌, ◌&&◌, All, Bool, List, filter, nat_le, nat_lt}
use Rattle.message.specs.Cut.{IsMessage}
use Rattle.message.specs.declared.message.Message.{Message}
use Rattle.message.specs.declared.range.HartRange.{HartRange}

-- The hart is one of those from the first to the last.
abbrev pub selects : HartRange → ℕ → Bool
selects range hart = nat_le range.first hart && nat_le hart range.last

-- One of these harts is below this count.
abbrev pub has_below : HartRange → ℕ → Bool
has_below range harts = nat_lt range.first harts && nat_le range.first range.last

-- The messages of these harts, in their order.
abbrev pub selected : HartRange → List Message → List Message
selected range messages = filter (λ message. selects range message.hart) messages

-- All harts that a message may be of.
abbrev pub every_hart : HartRange
every_hart = record { first = 0; last = 65535 }

-- The range of all harts selects every message.
abbrev pub AllSelectEveryMessage : Type 0
AllSelectEveryMessage = (messages : List Message) → All IsMessage messages → selected every_hart messages ≡ messages
