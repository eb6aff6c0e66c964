-- Which known messages are passed over.
use Rattle.std.specs.Prelude.{ℕ, ◌≡◌, ◌⊎◌, ◌+◌, ◌<◌, true, false, List, [], ◌∷◌, drop, length}
use Rattle.frames.specs.Frame.{frame_size}
use Rattle.frames.specs.GuidedTaken.{Sees, is_known_at, is_same}
use Rattle.frames.specs.Passages.{spans_from}
use Rattle.frames.specs.Taken.{has_firm_inside, is_firm}
use Rattle.frames.specs.declared.span.Span.{Span}
use Rattle.frames.specs.declared.span.Span.TheVariants.{Frame, Bytes}
use Rattle.message.specs.Capture.{message_bytes}
use Rattle.message.specs.declared.message.Message.{Message}

-- A message is taken at this offset.
abbrev pub IsTakenAt : ℕ → List Span → Type 0
IsTakenAt at [] = ⊥
IsTakenAt at (Frame place message ∷ spans) = (place ≡ at) ⊎ IsTakenAt at spans
IsTakenAt at (Bytes place count ∷ spans) = IsTakenAt at spans

-- This offset is inside a message that is taken, after its first byte.
abbrev pub IsInside : ℕ → List Span → Type 0
IsInside at [] = ⊥
IsInside at (Frame place message ∷ spans) =
    ((place < at) × (at < place + length (message_bytes message))) ⊎ IsInside at spans
IsInside at (Bytes place count ∷ spans) = IsInside at spans

-- A known message that is not taken begins inside one that is; or it is not firm, and a firm one begins inside it.
abbrev pub KnownArePassedOver : Type 0
KnownArePassedOver =
    (sees : Sees) (offset k : ℕ) (bytes : List ℕ) → k < length bytes → is_known_at sees (drop k bytes) ≡ true
    → IsTakenAt (offset + k) (spans_from sees offset bytes)
    ⊎ (IsInside (offset + k) (spans_from sees offset bytes)
    ⊎ ((is_firm (is_known_at sees) (drop k bytes) ≡ false)
    × (has_firm_inside (is_known_at sees) (drop k bytes) ≡ true)))

-- The place of these bytes is inside a message that is taken at a firm place.
abbrev pub IsInsideFirm : Sees → ℕ → ℕ → List ℕ → List Span → Type 0
IsInsideFirm sees offset k bytes spans =
    (j : ℕ) × (j < k) × (k < j + frame_size (drop j bytes)) × IsTakenAt (offset + j) spans
    × (is_firm (is_known_at sees) (drop j bytes) ≡ true)

-- A firm message that is not taken begins inside one that is taken at a firm place, where no message is known by its
-- number.
abbrev pub FirmArePassedOver : Type 0
FirmArePassedOver =
    (sees : Sees) (offset k : ℕ) (bytes : List ℕ) → ((message : Message) → is_same (sees message) ≡ false)
    → k < length bytes → is_firm (is_known_at sees) (drop k bytes) ≡ true
    → IsTakenAt (offset + k) (spans_from sees offset bytes)
    ⊎ IsInsideFirm sees offset k bytes (spans_from sees offset bytes)
