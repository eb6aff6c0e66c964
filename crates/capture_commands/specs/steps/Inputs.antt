-- The input that a subcommand owns, and the one that it lends.
use Rattle.std.specs.Borrow.{Bor}
use Rattle.std.specs.Prelude.{ℕ, List, Option, option_map}
use Rattle.capture_commands.specs.CaptureInput.{CaptureInput}
use Rattle.capture_commands.specs.declared.input.Input.{Input}
use Rattle.capture_commands.specs.declared.input.OwnedInput.{OwnedInput}

-- The file of symbols of an input, if one is given.
abbrev pub names_in : Input → Option (List ℕ)
names_in input = option_map (λ (file : Bor (List ℕ)). file.now) input.symbols

-- What is lent.
abbrev pub lent_in : Input → CaptureInput
lent_in input = record {
  program = input.program.now;
  symbols = names_in input;
  bytes = input.bytes.now;
  only = input.only;
}

-- What is owned.
abbrev pub owned_in : OwnedInput → CaptureInput
owned_in input = record {
  program = input.program;
  symbols = input.symbols;
  bytes = input.bytes.items;
  only = input.only;
}
