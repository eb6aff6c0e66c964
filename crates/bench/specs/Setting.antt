-- Why nothing is sent at all.
use Rattle.std.specs.Prelude.{ℕ, ◌==◌, if◌then◌else◌, Option, Some, None}
use Rattle.funnel.specs.Limits.{limit_fault}
use Rattle.funnel.specs.declared.fault.OpenFault.{OpenFault}
use Rattle.funnel.specs.declared.fault.OpenFault.TheVariants as open_fault
use Rattle.bench.specs.declared.config.Config.{Config}
use Rattle.bench.specs.declared.setup.Setup.{Setup}
use Rattle.bench.specs.declared.setup.Setup.TheVariants as setup

-- The fault of a run by a fault of the funnel's numbers, or, where these have none, by the period.
abbrev pub setup_by : Option OpenFault → ℕ → Option Setup
setup_by (Some open_fault.NoHarts) period = Some setup.NoHarts
setup_by (Some open_fault.TooManyHarts) period = Some setup.TooManyHarts
setup_by (Some open_fault.Capacity) period = Some setup.Capacity
setup_by (Some open_fault.Memory) period = Some setup.Memory
setup_by None period = if period == 0 then Some setup.Period else None

-- The first fault, by the most harts that there may be, of a count of harts and of this configuration, before any
-- memory is taken.
abbrev pub setup_fault : ℕ → ℕ → Config → Option Setup
setup_fault most harts config = setup_by (limit_fault most harts config.capacity) config.period
