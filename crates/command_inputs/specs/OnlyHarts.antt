-- The harts that `--only` asks for.
use Rattle.std.specs.Prelude.{◌≡◌, Option, Some, None, Result, Ok, Err}
use Rattle.message.specs.Range.{every_hart}
use Rattle.message.specs.Text.{range_of}
use Rattle.message.specs.declared.range.HartRange.{HartRange}
use Rattle.command_inputs.specs.Faults.{Path}
use Rattle.command_inputs.specs.declared.fault.Fault.{Fault}
use Rattle.command_inputs.specs.declared.fault.Fault.TheVariants as fault

-- The harts that an argument asks for, where it is a range of harts. Where there is no argument, they are all.
abbrev pub asked_harts : Option Path → Option HartRange
asked_harts None = Some every_hart
asked_harts (Some text) = range_of text.now

-- The harts, or the fault of an argument that is no range of harts.
abbrev pub only_at : {W : Type 0} → Option HartRange → Result HartRange (Fault W)
only_at None = Err fault.Only
only_at (Some harts) = Ok harts

-- The harts that are asked for are found.
abbrev pub IsOnly : {W : Type 0} → Option Path → Result HartRange (Fault W) → Type 0
IsOnly only found = found ≡ only_at (asked_harts only)
