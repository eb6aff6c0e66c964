-- What became of a message of RECEIVED.
use Rattle.std.specs.Prelude.{ℕ, ◌==◌, ◌&&◌, not, nat_lt, Bool, if◌then◌else◌, List}
use Rattle.std.specs.List.{filter, list_any}
use Rattle.std.specs.Str.{bytes_eq}
use Rattle.message.specs.declared.message.Message.{Message}
use Rattle.auditing.specs.declared.fate.Fate.{Fate}
use Rattle.auditing.specs.declared.fate.Fate.TheVariants as fate

-- A message is of this hart and has this number.
abbrev pub is_numbered : ℕ → ℕ → Message → Bool
is_numbered hart number message = message.hart == hart && message.number == number

-- Some of the messages is of this hart and has this number.
abbrev pub has_number : List Message → ℕ → ℕ → Bool
has_number messages hart number = list_any (is_numbered hart number) messages

-- Some of the messages is of this hart and has a greater number.
abbrev pub has_greater : List Message → ℕ → ℕ → Bool
has_greater messages hart number =
    list_any (λ (message : Message). message.hart == hart && nat_lt number message.number) messages

-- Two messages have the same hart, number and payload.
abbrev pub is_same : Message → Message → Bool
is_same message other = is_numbered message.hart message.number other && bytes_eq message.payload other.payload

-- A message is true: SENT has its hart and number with just its payload.
abbrev pub is_true : List Message → Message → Bool
is_true sent message = list_any (is_same message) sent

-- The true ones of messages.
abbrev pub true_ones : List Message → List Message → List Message
true_ones sent messages = filter (is_true sent) messages

-- What became of a message of RECEIVED, by SENT and the messages of RECEIVED before it: the first that applies.
abbrev pub fate_of : List Message → List Message → Message → Fate
fate_of sent before message =
    if not (has_number sent message.hart message.number) then fate.Stranger else
    if not (is_true sent message) then fate.Changed else
    if has_number (true_ones sent before) message.hart message.number then fate.Repeat else
    if has_greater (true_ones sent before) message.hart message.number then fate.Late else
    fate.InOrder
