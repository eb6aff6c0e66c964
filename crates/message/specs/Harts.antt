-- What a demultiplexer expects of each hart.
use Rattle.std.specs.Prelude.{◌^◌, ℕ, nat_lt, not, ◌||◌, Bool, false, List, Option, Some, None, IsSomeAnd, IsTrue}
use Rattle.std.specs.Prelude.{IsFalse, slice_get}
use Rattle.message.specs.declared.hart.Hart.{Hart}

-- What is expected of hart h is at place h.
abbrev pub Harts : Type 0
Harts = List Hart

-- A hart of which nothing was accepted.
abbrev pub newcomer : Hart
newcomer = record { expected = 0; closed = false }

-- The number from which on no message of a hart is accepted.
abbrev pub end_of_numbers : ℕ
end_of_numbers = 2 ^ 63

-- Nothing more of the hart is accepted: its closing packet was accepted, or its next number is at the end of numbers.
abbrev pub is_over : Hart → Bool
is_over h = h.closed || not (nat_lt h.expected end_of_numbers)

-- There is such a hart, and its closing packet was accepted.
abbrev pub is_closed : Option Hart → Bool
is_closed None = false
is_closed (Some h) = h.closed

-- The hart is known, and its closing packet was accepted.
abbrev pub has_closed : Harts → ℕ → Bool
has_closed harts hart = is_closed (slice_get harts hart)

-- The hart is known, and nothing more of it is accepted.
abbrev pub IsOver : Harts → ℕ → Type 0
IsOver harts hart = IsSomeAnd (slice_get harts hart) (λ h. IsTrue (is_over h))

-- The hart is known, more of it is accepted, and its next number meets this condition.
abbrev pub Expects : Harts → ℕ → (ℕ → Type 0) → Type 0
Expects harts hart P = IsSomeAnd (slice_get harts hart) (λ h. IsFalse (is_over h) × P h.expected)
