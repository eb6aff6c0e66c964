-- What bytes begin with.
use Rattle.std.specs.Prelude.{ℕ, ◌==◌, ◌||◌, nat_lt, if◌then◌else◌, List, length, take, drop, slice_index, Option, Some}
use Rattle.std.specs.Prelude.{None, Result, Ok, Err}
use Rattle.byteorder.specs.Endian.{little_number}
use Rattle.payload.specs.Limits.{most_bytes}
use Rattle.message.specs.declared.message.Message.{Message}
use Rattle.message.specs.declared.fault.MessageFault.{MessageFault}
use Rattle.message.specs.declared.fault.MessageFault.TheVariants as fault

-- The message of a head and a payload.
abbrev pub message_of : List ℕ → List ℕ → Message
message_of head payload =
    record { hart = little_number 2 head; number = little_number 8 (drop 2 head); payload = payload }

-- The message of a head and of this many bytes after it; or why there is none: the count is no payload's length, or
-- there are fewer bytes.
abbrev pub with_payload : List ℕ → List ℕ → ℕ → Result (Option Message) MessageFault
with_payload head rest count =
    if count == 0 || nat_lt most_bytes count then Err fault.BadLength else
    if nat_lt (length rest) count then Err fault.Short else
    Ok (Some (message_of head (take count rest)))

-- What bytes begin with: nothing where there are none; else a message, or why they begin with no whole one.
abbrev pub first_message : List ℕ → Result (Option Message) MessageFault
first_message bytes =
    if length bytes == 0 then Ok None else
    if nat_lt (length bytes) 11 then Err fault.Short else
    with_payload (take 11 bytes) (drop 11 bytes) (slice_index bytes 10)
