-- The messages of a damaged capture's frames, and where they are.
use Rattle.std.specs.Prelude.{ℕ, ◌≡◌, Bool, true, false, List, [], ◌∷◌, Some, length, slice_get}
use Rattle.std.specs.List.{list_any}
use Rattle.std.specs.declared.alloc.Global.{Global}
use Rattle.std.specs.declared.vec.Vec.{Vec}
use Rattle.frames.specs.declared.span.Span.{Span}
use Rattle.frames.specs.declared.span.Span.TheVariants.{Frame, Bytes}
use Rattle.message.specs.declared.message.Message.{Message}
use Rattle.salvage_reports.specs.Offsets.{offsets_in}
use Rattle.salvage_reports.specs.declared.frame_reading.Frames.{Frames}

-- The messages of the frames, in their order.
abbrev pub messages_in : List Span → List Message
messages_in [] = []
messages_in (Frame offset message ∷ spans) = message ∷ messages_in spans
messages_in (Bytes offset count ∷ spans) = messages_in spans

-- The span is bytes that belong to no frame.
abbrev pub is_run : Span → Bool
is_run (Frame offset message) = false
is_run (Bytes offset count) = true

-- The messages of the frames were read, the offsets of each of so many harts, and whether there are bytes of no frame.
pub record AreFrames (harts : ℕ) (spans : List Span) (frames : Frames) : Type 0 where
  pub messages : frames.messages.items ≡ messages_in spans
  pub count : length frames.offsets.items ≡ harts
  pub offsets : (hart : ℕ) (own : Vec ℕ Global) → slice_get frames.offsets.items hart ≡ Some own
      → own.items ≡ offsets_in hart spans
  pub runs : frames.runs ≡ list_any is_run spans
