-- The faults that are found before any file is read.
use Rattle.std.specs.Prelude.{ℕ, ◌==◌, Option, Some, None, nat_lt, if◌then◌else◌}
use Rattle.message.specs.declared.range.HartRange.{HartRange}
use Rattle.command_inputs.specs.declared.words.Format.{Format}
use Rattle.command_inputs.specs.declared.words.Format.TheVariants.{Other}
use Rattle.command_inputs.specs.declared.fault.Fault.{Fault}
use Rattle.command_inputs.specs.declared.fault.Fault.TheVariants as fault

-- The fault of an argument that names no format.
abbrev pub format_fault : {W : Type 0} → Format → Option (Fault W)
format_fault Other = Some fault.Format
format_fault format = None

-- The fault of a base that is no number.
abbrev pub base_fault : {W : Type 0} → Option ℕ → Option (Fault W)
base_fault None = Some fault.Base
base_fault (Some base) = None

-- The fault of an argument that is no range of harts.
abbrev pub only_fault : {W : Type 0} → Option HartRange → Option (Fault W)
only_fault None = Some fault.Only
only_fault (Some range) = None

-- The fault of a base that is no number; then that of an argument that is no range of harts.
abbrev pub base_or_only_fault : {W : Type 0} → Option ℕ → Option HartRange → Option (Fault W)
base_or_only_fault None range = Some fault.Base
base_or_only_fault (Some base) range = only_fault range

-- The fault of an argument that names no format; then that of an argument that is no range of harts.
abbrev pub format_or_only_fault : {W : Type 0} → Format → Option HartRange → Option (Fault W)
format_or_only_fault Other range = Some fault.Format
format_or_only_fault format range = only_fault range

-- The fault of an argument that names no format; then that of a base that is no number; then that of an argument that
-- is no range of harts.
abbrev pub format_base_or_only_fault : {W : Type 0} → Format → Option ℕ → Option HartRange → Option (Fault W)
format_base_or_only_fault Other base range = Some fault.Format
format_base_or_only_fault format base range = base_or_only_fault base range

-- The fault of an argument that names no format; then that of a base that is no number.
abbrev pub format_or_base_fault : {W : Type 0} → Format → Option ℕ → Option (Fault W)
format_or_base_fault Other base = Some fault.Format
format_or_base_fault format base = base_fault base

-- The fault of a base that is no number; then that of no log; then that of more logs than `most`.
abbrev pub logs_fault : {W : Type 0} → ℕ → Option ℕ → ℕ → Option (Fault W)
logs_fault most None count = Some fault.Base
logs_fault most (Some base) count =
    if count == 0 then Some fault.NoLogs else if nat_lt most count then Some (fault.ManyLogs most) else None
