-- What a receiver has of each hart.
use Rattle.std.specs.Prelude.{ℕ, ◌≡◌, Bool, List, length, map, slice_get}
use Rattle.std.specs.declared.vec.Vec.{Vec}
use Rattle.retire.specs.declared.event.Event.{Event}
use Rattle.decoder.specs.declared.decoding.Decoder.{Decoder}
use Rattle.message.specs.Harts.{Harts}

-- What is expected of each hart, its decoder, its list of events, and whether its closing packet was decoded.
pub record Received : Type 0 where
  pub expected : Harts
  pub decoders : List Decoder
  pub lists : List (List Event)
  pub closed : List Bool

-- The events of each list.
abbrev pub events_in : {A : Type 0} → List (Vec Event A) → List (List Event)
events_in lists = map (λ list. list.items) lists

-- There is a decoder, a list and a flag for each hart of which messages are expected.
pub record IsReceived (received : Received) : Type 0 where
  pub decoders : length received.decoders ≡ length received.expected
  pub lists : length received.lists ≡ length received.expected
  pub closed : length received.closed ≡ length received.expected

-- What a receiver has of the hart is the same before and after.
pub record IsSameHart (hart : ℕ) (old new : Received) : Type 0 where
  pub expected : slice_get new.expected hart ≡ slice_get old.expected hart
  pub decoder : slice_get new.decoders hart ≡ slice_get old.decoders hart
  pub list : slice_get new.lists hart ≡ slice_get old.lists hart
  pub closed : slice_get new.closed hart ≡ slice_get old.closed hart
