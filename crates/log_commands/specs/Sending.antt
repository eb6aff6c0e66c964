-- How logs are sent through the funnel, and how a report of what is received of them ends.
use Rattle.std.specs.Prelude.{◌≡◌, ℕ, Bool, true, false, Option, Some, None, Result, Ok, Err}
use Rattle.payload.specs.declared.mode.Mode.{Mode}
use Rattle.bench.specs.Setting.{setup_fault}
use Rattle.bench.specs.declared.config.Config.{Config}
use Rattle.bench.specs.declared.setup.Setup.{Setup}
use Rattle.bench.specs.declared.stop.Stop.{Stop}
use Rattle.command_inputs.specs.declared.status.Status.{Status}
use Rattle.command_inputs.specs.declared.status.Status.TheVariants.{Whole, NotWhole, Machine}
use Rattle.log_commands.specs.Faults.{Fault, unsent_fault}

-- The settings with which logs are sent: this period, this mode and this capacity. No packets are kept.
abbrev pub config_at : ℕ → Mode → ℕ → Config
config_at period mode capacity = record { period = period; mode = mode; capacity = capacity; keep = false }

-- The fault of settings with which nothing is sent at all, or none where the logs may be sent.
abbrev pub setting_at : Option Setup → Result (Unit {0}) Fault
setting_at None = Ok tt
setting_at (Some why) = Err (unsent_fault why)

-- It is found whether the logs of `harts` harts may be sent with these settings, where there may be `most` harts.
abbrev pub IsSetting : ℕ → ℕ → Config → Result (Unit {0}) Fault → Type 0
IsSetting most harts config found = found ≡ setting_at (setup_fault most harts config)

-- The status of a run that writes a report: the machine's where there was a stop, else by whether all logs came back
-- complete.
abbrev pub end_of_report : Option Stop → Bool → Status
end_of_report None true = Whole
end_of_report None false = NotWhole
end_of_report (Some why) whole = Machine
