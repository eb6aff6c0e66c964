-- Finding step by step, where each step may end at a fault.
use Rattle.std.specs.Prelude.{◌≡◌, Result, Ok, Err}
use Rattle.command_inputs.specs.declared.fault.Fault.{Fault}

-- After a fault that same fault is found, and after a value what the next step finds from it.
abbrev pub IsFoundFrom : {W A B : Type 0} → Result A (Fault W) → (A → Result B (Fault W) → Type 0) → Result B (Fault W)
    → Type 0
IsFoundFrom (Err why) Next found = found ≡ Err why
IsFoundFrom (Ok value) Next found = Next value found

-- This is found from what the first step finds.
abbrev pub After : {W A B : Type 0} → (Result A (Fault W) → Type 0) → (A → Result B (Fault W) → Type 0)
    → Result B (Fault W) → Type 0
After {W} {A} Finds Next found = (first : Result A (Fault W)) × Finds first × IsFoundFrom first Next found

-- A value is found, and this holds of it.
abbrev pub Once : {W A : Type 0} → (Result A (Fault W) → Type 0) → (A → Type 0) → Type 0
Once {W} {A} Finds Holds = (value : A) × Finds (Ok value) × Holds value
