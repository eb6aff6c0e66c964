-- The numbers of messages are recovered from their low bits.
use Rattle.std.specs.Prelude.{⊤, ◌≡◌, ◌⊎◌, ◌↔◌, ◌≤◌, ◌<◌, ℕ, ◌-◌, ◌%◌, ◌^◌, ◌++◌, All, List, [], ◌∷◌, None, Some, Ok}
use Rattle.std.specs.Prelude.{map}
use Rattle.message.specs.Cut.{IsMessage}
use Rattle.message.specs.OfHart.{of_hart}
use Rattle.message.specs.Version.{most_harts}
use Rattle.message.specs.declared.message.Message.{Message}
use Rattle.captures.specs.HexLines.{hex_text}
use Rattle.captures.specs.Lines.{lines_of, messages_of}
use Rattle.captures.specs.Number.{next_of}
use Rattle.captures.specs.declared.capture_line.Line.{Line}
use Rattle.captures.specs.declared.line_settings.Settings.{Settings}

-- The message with so many low bits of its number alone.
abbrev pub low_message : ℕ → Message → Message
low_message bits message = record message { number = message.number % 2 ^ bits }

-- A number is late by less than half the numbers of so many bits, or is a repeat so: it is below this next number, the
-- greatest before it plus 1.
abbrev pub IsLate : ℕ → ℕ → ℕ → Type 0
IsLate bits next number = (number < next) × (next - 1 - number < 2 ^ (bits - 1))

-- A number skips fewer than half the numbers of so many bits, from the next number on.
abbrev pub SkipsFew : ℕ → ℕ → ℕ → Type 0
SkipsFew bits next number = (next ≤ number) × (number - next < 2 ^ (bits - 1))

-- A number has so many bits, and those before it are below half the numbers of so many bits, or there are none.
abbrev pub IsEarly : ℕ → ℕ → ℕ → Type 0
IsEarly bits next number = (number < 2 ^ bits) × (next ≤ 2 ^ (bits - 1))

-- A number is near those before it.
abbrev pub IsNear : ℕ → ℕ → ℕ → Type 0
IsNear bits next number = IsLate bits next number ⊎ (SkipsFew bits next number ⊎ IsEarly bits next number)

-- The number of each of a hart's messages, which come after these, is near those before it.
abbrev pub AreNear : ℕ → List Message → List Message → Type 0
AreNear bits before [] = ⊤
AreNear bits before (message ∷ later) =
    IsNear bits (next_of before) message.number × AreNear bits (before ++ (message ∷ [])) later

-- Lines of hexadecimal, which have so many low bits of the numbers of any messages in their ranges, are accepted. All
-- of a hart's numbers are recovered exactly when each of them is near those before it: its messages are then the
-- hart's.
abbrev pub LowNumbersAreRecovered : Type 0
LowNumbersAreRecovered =
    (settings : Settings) (bits : ℕ) (messages : List Message) → 1 ≤ bits → settings.harts ≡ None
    → settings.numbers ≡ Some (2 ^ bits)
    → All (λ (message : Message). IsMessage message × (message.hart < most_harts settings.version)) messages
    → (lines : List Line) × (lines_of settings (hex_text (map (low_message bits) messages)) ≡ Ok lines)
    × ((hart : ℕ) → (of_hart hart (messages_of settings.numbers lines) ≡ of_hart hart messages)
    ↔ AreNear bits [] (of_hart hart messages))
