-- How what is at a place of a damaged capture is added.
use Rattle.std.specs.Prelude.{ℕ, ◌≡◌, ◌++◌, Bool, true, false, List, [], ◌∷◌, Some, length, slice_get}
use Rattle.std.specs.declared.alloc.Global.{Global}
use Rattle.std.specs.declared.vec.Vec.{Vec}
use Rattle.frames.specs.declared.span.Span.{Span}
use Rattle.frames.specs.declared.span.Span.TheVariants.{Frame, Bytes}
use Rattle.message.specs.declared.message.Message.{Message}
use Rattle.salvage_reports.specs.declared.frame_reading.Frames.{Frames}

-- An offset was added to the list of its hart, if there is one.
pub record AddsOffset (hart offset : ℕ) (old new : List (Vec ℕ Global)) : Type 0 where
  pub count : length new ≡ length old
  pub own : (before after : Vec ℕ Global) → slice_get old hart ≡ Some before → slice_get new hart ≡ Some after
      → after.items ≡ before.items ++ offset ∷ []
  pub others : (other : ℕ) (before after : Vec ℕ Global) → ¬ (other ≡ hart) → slice_get old other ≡ Some before
      → slice_get new other ≡ Some after → after.items ≡ before.items

-- The message of a frame and its offset were added.
abbrev pub AddsFrame : ℕ → Message → Frames → Frames → Type 0
AddsFrame offset message old new =
    (new.messages.items ≡ old.messages.items ++ message ∷ []) × (new.runs ≡ old.runs)
    × AddsOffset message.hart offset old.offsets.items new.offsets.items

-- What is at a place was added: the message of a frame and its offset, or that there are bytes.
abbrev pub AddsSpan : Span → Frames → Frames → Type 0
AddsSpan (Frame offset message) old new = AddsFrame offset message old new
AddsSpan (Bytes offset count) old new =
    (new.messages.items ≡ old.messages.items) × (new.runs ≡ true) × (new.offsets.items ≡ old.offsets.items)

-- The same where this is so, and else nothing was added.
abbrev pub AddsWhere : Bool → Span → Frames → Frames → Type 0
AddsWhere true span old new = AddsSpan span old new
AddsWhere false span old new = new ≡ old
