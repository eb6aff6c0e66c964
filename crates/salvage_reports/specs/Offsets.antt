-- Where the messages of each hart are.
use Rattle.std.specs.Prelude.{ℕ, ◌==◌, if◌then◌else◌, List, [], ◌∷◌, Option, Some, None, slice_get}
use Rattle.std.specs.declared.alloc.Global.{Global}
use Rattle.std.specs.declared.vec.Vec.{Vec}
use Rattle.frames.specs.declared.span.Span.{Span}
use Rattle.frames.specs.declared.span.Span.TheVariants.{Frame, Bytes}

-- The offsets of the frames of a hart, in their order.
abbrev pub offsets_in : ℕ → List Span → List ℕ
offsets_in hart [] = []
offsets_in hart (Frame offset message ∷ spans) =
    if message.hart == hart then offset ∷ offsets_in hart spans else offsets_in hart spans
offsets_in hart (Bytes offset count ∷ spans) = offsets_in hart spans

-- The offset at this place; 0 where there is none.
abbrev pub offset_or : Option ℕ → ℕ
offset_or None = 0
offset_or (Some offset) = offset

abbrev pub offset_at : List ℕ → ℕ → ℕ
offset_at offsets place = offset_or (slice_get offsets place)

-- The offsets in the list of a hart; none where the hart has no list.
abbrev pub offsets_or : Option (Vec ℕ Global) → List ℕ
offsets_or None = []
offsets_or (Some own) = own.items

abbrev pub own_offsets : List (Vec ℕ Global) → ℕ → List ℕ
own_offsets lists hart = offsets_or (slice_get lists hart)
