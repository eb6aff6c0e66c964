-- Strangers: messages of which no hart has a use.
use Rattle.std.specs.Prelude.{ℕ, nat_lt, not, ◌&&◌, Bool, List}
use Rattle.std.specs.List.{filter}
use Rattle.message.specs.Harts.{end_of_numbers}
use Rattle.message.specs.OfHart.{of_hart}
use Rattle.message.specs.declared.message.Message.{Message}

-- The number of a message is below 2^63, so a hart may have it.
abbrev pub has_number : Message → Bool
has_number message = nat_lt message.number end_of_numbers

-- The message is a stranger among so many harts: its hart is not one of them, or its number is 2^63 or more.
abbrev pub is_stranger : ℕ → Message → Bool
is_stranger harts message = not (nat_lt message.hart harts && has_number message)

-- The messages of a hart, in the order in which they came, without those whose number no hart has.
abbrev pub own_messages : ℕ → List Message → List Message
own_messages hart messages = filter has_number (of_hart hart messages)
