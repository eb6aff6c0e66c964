-- Which frames are taken.
use Rattle.std.specs.Prelude.{ℕ, ◌-◌, ◌&&◌, ◌||◌, not, Bool, true, false, List, [], ◌∷◌, drop}
use Rattle.frames.specs.Frame.{frame_size, is_frame}
use Prim.Native.Nat.{zero, suc}

-- What is looked for: whether a message of the kind begins bytes, as a frame does.
abbrev pub Kind : Type 0
Kind = List ℕ → Bool

-- Nothing more comes, or a message of the kind.
abbrev pub ends_or_goes_on : Kind → List ℕ → Bool
ends_or_goes_on kind [] = true
ends_or_goes_on kind (b ∷ bytes) = kind (b ∷ bytes)

-- A message of the kind begins the bytes, and it is firm: after it the bytes end, or another one begins.
abbrev pub is_firm : Kind → List ℕ → Bool
is_firm kind bytes = kind bytes && ends_or_goes_on kind (drop (frame_size bytes) bytes)

-- A firm one begins at one of so many places, the first byte's and those after it.
abbrev pub has_firm : Kind → ℕ → List ℕ → Bool
has_firm kind zero bytes = false
has_firm kind (suc places) bytes = is_firm kind bytes || has_firm kind places (drop 1 bytes)

-- A firm one begins inside the message that begins the bytes, after its first byte.
abbrev pub has_firm_inside : Kind → List ℕ → Bool
has_firm_inside kind bytes = has_firm kind (frame_size bytes - 1) (drop 1 bytes)

-- A message of the kind begins the bytes, and it is sure: it is firm, or no firm one begins inside it.
abbrev pub is_sure : Kind → List ℕ → Bool
is_sure kind bytes = kind bytes && (is_firm kind bytes || not (has_firm_inside kind bytes))

-- A frame begins the bytes, and it is taken: it is sure.
abbrev pub is_taken : ℕ → List ℕ → Bool
is_taken known bytes = is_sure (is_frame known) bytes
