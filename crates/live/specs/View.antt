-- What of SENT is in view.
use Rattle.std.specs.Prelude.{ℕ, ◌+◌, ◌-◌, nat_lt, Bool, if◌then◌else◌, List, [], ◌∷◌, drop, length, take}
use Rattle.message.specs.OfHart.{of_hart}
use Rattle.message.specs.declared.message.Message.{Message}
use Rattle.auditing.specs.Fates.{is_numbered}
use Rattle.live.specs.declared.standing.Standing.{Standing}
use Rattle.live.specs.declared.standing.Standing.TheVariants as standing

-- How many messages of SENT are given up, where this many are up to the front, which is among them: those that are more
-- than a window before the front.
abbrev pub given_up : ℕ → ℕ → ℕ
given_up window front = front - (window + 1)

-- The messages of SENT in view: from a window before the front to a window after it. Before the first true message that
-- came the front is the place before SENT.
abbrev pub in_view : ℕ → List Message → ℕ → List Message
in_view window sent front = drop (given_up window front) (take (front + window) sent)

-- A number of a hart is below those that are in view: it is one of those that are given up.
abbrev pub is_below : ℕ → List Message → ℕ → ℕ → ℕ → Bool
is_below window sent front hart number = nat_lt number (length (of_hart hart (take (given_up window front) sent)))

-- Where the first of these messages is that is of this hart and has this number. The first of them is at this place.
abbrev pub standing_from : ℕ → List Message → ℕ → ℕ → Standing
standing_from place [] hart number = standing.Beyond
standing_from place (message ∷ messages) hart number =
    if is_numbered hart number message then standing.At place else standing_from (place + 1) messages hart number

-- Where a number of a hart is, by what is in view. Places are counted from the first message in view.
abbrev pub standing_of : ℕ → List Message → ℕ → ℕ → ℕ → Standing
standing_of window sent front hart number =
    if is_below window sent front hart number then standing.Below else
    standing_from 0 (in_view window sent front) hart number

-- How many messages of SENT are up to the one in view at this place.
abbrev pub up_to : ℕ → ℕ → ℕ → ℕ
up_to window front place = given_up window front + place + 1
