-- The payloads of harts, and of messages.
use Rattle.std.specs.Prelude.{◌≡◌, ◌+◌, ℕ, true, List, [], Some, length, map, slice_get, slice_index_or}
use Rattle.payload.specs.Closing.{is_closing}
use Rattle.message.specs.declared.message.Message.{Message}

-- The payloads of a hart, which are at its place.
abbrev pub payloads_of : ℕ → List (List (List ℕ)) → List (List ℕ)
payloads_of hart payloads = slice_index_or payloads hart []

-- The payloads of messages, in order.
abbrev pub payloads_in : List Message → List (List ℕ)
payloads_in messages = map (λ (message : Message). message.payload) messages

-- Only the last of these payloads may be a closing one.
abbrev pub ClosesOnlyLast : List (List ℕ) → Type 0
ClosesOnlyLast payloads =
    (n : ℕ) (payload : List ℕ) → slice_get payloads n ≡ Some payload → is_closing payload ≡ true
    → length payloads ≡ n + 1
