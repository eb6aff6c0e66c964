-- The harts of frames are known.
use Rattle.std.proofs.Common.{◌≡◌, ◌<◌, ◌≤◌, ◌+◌, ◌-◌, ℕ, zero, suc, Bool, true, false, List, [], ◌∷◌, max, nat_lt}
use Rattle.std.proofs.Common.{arith, refl, if◌then◌else◌}
use Rattle.std.proofs.Math.Nat.{le-max_right}
use Rattle.std.proofs.lemmas.Bool.{and_parts, ltb-true}
use Rattle.frames.specs.Frame.{end_of_frames, frame_in, frame_size, hart_in, is_complete, is_frame, number_in}
use Rattle.frames.specs.Spans.{spans_after, spans_from, with_byte}
use Rattle.frames.specs.Taken.{is_taken}
use Rattle.frames.specs.declared.span.Span.{Span}
use Rattle.frames.specs.declared.span.Span.TheVariants.{Frame, Bytes}
use Rattle.frames.specs.Harts.{harts_in}

-- The hart of each frame is below this.
abbrev pub AreBelow : ℕ → List Span → Type 0
AreBelow known [] = Unit {0}
AreBelow known (Frame place message ∷ spans) = (message.hart < known) × AreBelow known spans
AreBelow known (Bytes place count ∷ spans) = AreBelow known spans

below_with_byte : (known offset : ℕ) (spans : List Span) → AreBelow known spans
    → AreBelow known (with_byte offset spans)
below_with_byte known offset [] below = tt
below_with_byte known offset (Frame place message ∷ spans) below = below
below_with_byte known offset (Bytes place count ∷ spans) below = below

-- A frame that is taken is of a known hart.
hart_known : (known : ℕ) (xs : List ℕ) → is_taken known xs ≡ true → hart_in xs < known
hart_known known xs taken =
    let frame = (and_parts (is_frame known xs) _ taken).0 in
    let others = (and_parts (is_complete xs) _ frame).1 in
    ltb-true (hart_in xs) known (and_parts (nat_lt (hart_in xs) known) (nat_lt (number_in xs) end_of_frames) others).0

below_here : (known offset : ℕ) (xs : List ℕ) (first : List Span) (later : List Span) (taken : Bool)
    → is_taken known xs ≡ taken → AreBelow known first → AreBelow known later
    → AreBelow known (if taken then Frame offset (frame_in xs) ∷ first else with_byte offset later)
below_here known offset xs first later true is below after = (hart_known known xs is, below)
below_here known offset xs first later false is below after = below_with_byte known offset later after

-- So are all of them.
below_after : (known taken offset : ℕ) (bytes : List ℕ) → AreBelow known (spans_after known taken offset bytes)
below_after known taken offset [] = tt
below_after known (suc taken) offset (b ∷ bytes) = below_after known taken (offset + 1) bytes
below_after known zero offset (b ∷ bytes) =
    below_here known offset (b ∷ bytes) (spans_after known (frame_size (b ∷ bytes) - 1) (offset + 1) bytes)
    (spans_after known zero (offset + 1) bytes) (is_taken known (b ∷ bytes)) refl
    (below_after known (frame_size (b ∷ bytes) - 1) (offset + 1) bytes) (below_after known zero (offset + 1) bytes)

pub below : (known offset : ℕ) (bytes : List ℕ) → AreBelow known (spans_from known offset bytes)
below known offset bytes = below_after known zero offset bytes

-- There is one hart at least.
pub some_hart : (spans : List Span) → 1 ≤ harts_in spans
some_hart [] = omega arith
some_hart (Frame place message ∷ spans) =
    let rest = some_hart spans in
    let more = le-max_right (message.hart + 1) (harts_in spans) in
    omega (arith, rest, more)
some_hart (Bytes place count ∷ spans) = some_hart spans

-- So many harts are counted of some first spans, and the others go on from there.
pub record HasCounted (known : ℕ) (all left : List Span) (harts : ℕ) : Type 0 where
  pub below : AreBelow known left
  pub some : 1 ≤ harts
  pub counted : harts_in all ≡ max harts (harts_in left)

-- None is counted yet.
pub none_counted : (known : ℕ) (spans : List Span) → AreBelow known spans → HasCounted known spans spans 1
none_counted known spans below =
    let some = some_hart spans in record { below = below; some = omega arith; counted = omega (arith, some) }
