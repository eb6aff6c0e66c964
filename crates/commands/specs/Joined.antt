-- Runs of some subcommands, with their reasons to stop among those of all subcommands.
use Rattle.std.specs.Prelude.{◌≡◌, Result, Ok, Err, option_map}
use Rattle.command_inputs.specs.Faults.{map_own}
use Rattle.command_inputs.specs.Meaning.{Meaning as AnyMeaning}
use Rattle.command_inputs.specs.Printed.{Printed as AnyPrinted}
use Rattle.command_inputs.specs.declared.fault.Fault.{Fault as AnyFault}
use Rattle.command_inputs.specs.declared.status.Status.{Status}
use Rattle.commands.specs.Faults.{Fault, Meaning, Printed}
use Rattle.commands.specs.declared.reason.CommandReason.{CommandReason}

-- The same end of a run, with its reason among those of all.
abbrev pub joined_end : {W : Type 0} → (W → CommandReason) → Result Status (AnyFault W) → Result Status Fault
joined_end to (Ok status) = Ok status
joined_end to (Err why) = Err (map_own to why)

-- The same text and the same end of a run, with its reason among those of all.
abbrev pub joined_printed : {W : Type 0} → (W → CommandReason) → AnyPrinted W → Printed
joined_printed to own = record { text = own.text; ended = joined_end to own.ended }

-- This is printed as one of some subcommands prints it.
pub record PrintsJoined {W : Type 0} (to : W → CommandReason) (Prints : AnyPrinted W → Type 0) (printed : Printed)
    : Type 0 where
  pub own : AnyPrinted W
  pub prints : Prints own
  pub is : printed ≡ joined_printed to own

-- The same meaning of a subcommand, with its reasons among those of all.
abbrev pub joined : {W : Type 0} → (W → CommandReason) → AnyMeaning W → Meaning
joined to own = record {
  early = option_map (map_own to) own.early;
  Prints = λ content. PrintsJoined to (own.Prints content);
  CanWrite = own.CanWrite;
  Begins = own.Begins;
  WritesInParts = own.WritesInParts;
  Cuts = λ content. PrintsJoined to (own.Cuts content);
}
