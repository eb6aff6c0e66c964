-- Which subcommand is asked for, and how it writes.
use Rattle.std.specs.Prelude.{◌≡◌, ℕ, Bool, true, false, Option, Some, None}
use Rattle.message.specs.declared.header.Version.{Version}
use Rattle.message.specs.declared.header.Version.TheVariants.{One, Two}
use Rattle.command_inputs.specs.declared.words.Capture.{Capture as AskedCapture}
use Rattle.command_inputs.specs.declared.words.Asked.{Asked}
use Rattle.command_inputs.specs.declared.words.Asked.TheVariants.{Audit, Capture, Check, Generate}

-- What a capture begins with is known before its messages: nothing in version 1, and else the header, where the count of
-- harts is given.
abbrev pub is_known : Version → Option ℕ → Bool
is_known One harts = true
is_known Two None = false
is_known Two (Some harts) = true

-- `capture` writes the lines as they come.
abbrev pub is_streamed : AskedCapture → Bool
is_streamed asked = is_known asked.version asked.harts

-- What is asked is a run that writes before it has read its input: one of `check`, one of `audit` while messages come, or
-- one of `capture` that writes lines as they come.
abbrev pub WritesAsItReads : Asked → Type 0
WritesAsItReads (Check asked) = Unit {0}
WritesAsItReads (Audit asked) = asked.live ≡ true
WritesAsItReads (Capture asked) = is_streamed asked ≡ true
WritesAsItReads _ = ⊥

-- What is asked is a run of `generate`.
abbrev pub IsGenerate : Asked → Type 0
IsGenerate (Generate asked) = Unit {0}
IsGenerate _ = ⊥
