-- How many harts a funnel serves, how many messages it holds, and how many a hart sends.
use Rattle.std.specs.Prelude.{ℕ, ◌^◌, ◌==◌, ◌||◌, nat_lt, if◌then◌else◌, Option, Some, None}
use Rattle.message.specs.Capacity.{most_capacity}
use Rattle.funnel.specs.declared.fault.OpenFault.{OpenFault}
use Rattle.funnel.specs.declared.fault.OpenFault.TheVariants as fault

-- The most ports of a channel.
abbrev pub most_ports : ℕ
most_ports = 64

-- The most messages that a hart sends.
abbrev pub most_messages : ℕ
most_messages = 2 ^ 32

-- The first fault, by the most harts that there may be, of a count of harts and of a capacity.
abbrev pub limit_fault : ℕ → ℕ → ℕ → Option OpenFault
limit_fault most harts capacity =
    if harts == 0 then Some fault.NoHarts else
    if nat_lt most harts then Some fault.TooManyHarts else
    if capacity == 0 || nat_lt most_capacity capacity then Some fault.Capacity else
    None
