-- The place, among all messages, of a message of some harts.
use Rattle.std.specs.Prelude.{ℕ, ◌+◌, List, [], ◌∷◌, if◌then◌else◌, get_or}
use Rattle.message.specs.Range.{selects}
use Rattle.message.specs.declared.range.HartRange.{HartRange}
use Rattle.losses.specs.declared.fault.LossyFault.{LossyFault}
use Rattle.losses.specs.declared.fault.LossyFault.TheVariants as lossy
use Rattle.message.specs.declared.message.Message.{Message}

-- The places of the messages of these harts, where the first of all messages is at this place.
abbrev pub places_from : HartRange → ℕ → List Message → List ℕ
places_from only place [] = []
places_from only place (message ∷ messages) =
    if selects only message.hart then place ∷ places_from only (place + 1) messages
    else places_from only (place + 1) messages

-- The place among all messages, counted from 0, of the one that is at this place among those of these harts.
abbrev pub place_among : HartRange → List Message → ℕ → ℕ
place_among only messages own = get_or (places_from only 0 messages) own 0

-- The fault of messages of these harts names the place of a message among all messages.
abbrev pub placed_fault : HartRange → List Message → LossyFault → LossyFault
placed_fault only messages (lossy.Demux own why) = lossy.Demux (place_among only messages own) why
placed_fault only messages (lossy.Decode own why) = lossy.Decode (place_among only messages own) why
placed_fault only messages lossy.Memory = lossy.Memory
