-- Which numbers arguments may ask for.
use Rattle.std.specs.Prelude.{ℕ, ◌≤◌, ◌^◌, Option, IfSome}
use Rattle.message.specs.Capacity.{most_capacity}
use Rattle.message.specs.Version.{most_harts}
use Rattle.message.specs.declared.header.Version.TheVariants.{Two}
use Rattle.retire.specs.Log.{most_long_rows}
use Rattle.command_inputs.specs.declared.words.Generate.{Generate as AskedGenerate}
use Rattle.command_inputs.specs.declared.words.Asked.{Asked}
use Rattle.command_inputs.specs.declared.words.Asked.TheVariants.{Audit, Bench, Capture, Compare, Decode, Encode}
use Rattle.command_inputs.specs.declared.words.Asked.TheVariants.{Generate, Listing, Measure, Replay, Salvage}

-- The most retirements from one periodic synchronisation to the next.
abbrev pub longest_period : ℕ
longest_period = 65535

-- The greatest hart that the first of some logs may be of.
abbrev pub greatest_first : ℕ
greatest_first = 1023

-- A first hart that is given is 0 to 1023.
abbrev pub IsFirstIfGiven : Option ℕ → Type 0
IsFirstIfGiven given = IfSome given (λ first. first ≤ greatest_first)

-- A count that is given is from 1 to `most`.
abbrev pub IsUpToIfGiven : ℕ → Option ℕ → Type 0
IsUpToIfGiven most given = IfSome given (λ count. (1 ≤ count) × (count ≤ most))

-- A count of harts that is given is 1 to 1024.
abbrev pub IsCountIfGiven : Option ℕ → Type 0
IsCountIfGiven = IsUpToIfGiven (most_harts Two)

-- The most messages that a capture may be asked to have, but for those that close the traces.
abbrev pub most_messages : ℕ
most_messages = 2 ^ 40

-- The most messages of one hart that may be asked to come one after another.
abbrev pub longest_burst : ℕ
longest_burst = 65535

-- The most messages that were sent that may be asked to be in view before the front, and after it.
abbrev pub most_in_view : ℕ
most_in_view = 16777216

-- The fewest low bits of a number that lines may have.
abbrev pub fewest_number_bits : ℕ
fewest_number_bits = 4

-- The most low bits of a number that lines may have, where they have not the number itself.
abbrev pub most_number_bits : ℕ
most_number_bits = 32

-- A count of low bits that is given is 4 to 32.
abbrev pub AreBitsIfGiven : Option ℕ → Type 0
AreBitsIfGiven given = IfSome given (λ bits. (fewest_number_bits ≤ bits) × (bits ≤ most_number_bits))

-- The numbers that `generate` may be asked for: a hart is 0 to 1023, a count of events 1 to 4294967295, of harts 1 to
-- 1024, of messages 1 to 2^40, a period 1 to 65535 retirements, and a burst 1 to 65535 messages, where they are given.
abbrev pub IsGenerateWithin : AskedGenerate → Type 0
IsGenerateWithin asked =
    IsFirstIfGiven asked.hart × IsUpToIfGiven most_long_rows asked.events × IsCountIfGiven asked.harts
    × IsUpToIfGiven most_messages asked.messages × IsUpToIfGiven longest_period asked.period
    × IsUpToIfGiven longest_burst asked.burst

-- A period is 1 to 65535 retirements, a count of harts 1 to 1024, a first hart 0 to 1023, a capacity 1 to 65536
-- messages, a window 1 to 16777216 messages, and a count of low bits 4 to 32.
abbrev pub IsWithinLimits : Asked → Type 0
IsWithinLimits (Encode asked) =
    (1 ≤ asked.period) × (asked.period ≤ longest_period) × IsFirstIfGiven asked.first × IsCountIfGiven asked.of
IsWithinLimits (Decode asked) = (1 ≤ asked.harts) × (asked.harts ≤ most_harts Two)
IsWithinLimits (Replay asked) =
    (1 ≤ asked.period) × (asked.period ≤ longest_period) × (1 ≤ asked.capacity) × (asked.capacity ≤ most_capacity)
IsWithinLimits (Bench asked) =
    (1 ≤ asked.period) × (asked.period ≤ longest_period) × (1 ≤ asked.capacity) × (asked.capacity ≤ most_capacity)
IsWithinLimits (Audit asked) = IsUpToIfGiven most_in_view asked.window
IsWithinLimits (Measure asked) = (1 ≤ asked.period) × (asked.period ≤ longest_period)
IsWithinLimits (Listing asked) = IsCountIfGiven asked.harts
IsWithinLimits (Salvage asked) = IsCountIfGiven asked.harts
IsWithinLimits (Capture asked) =
    (1 ≤ asked.period) × (asked.period ≤ longest_period) × IsCountIfGiven asked.harts
    × AreBitsIfGiven asked.number_bits
IsWithinLimits (Compare asked) = (1 ≤ asked.harts) × (asked.harts ≤ most_harts Two)
IsWithinLimits (Generate asked) = IsGenerateWithin asked
IsWithinLimits _ = Unit {0}
