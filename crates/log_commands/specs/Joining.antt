-- All parts of a capture, joined one after the other.
use Rattle.std.specs.Prelude.{◌≡◌, ◌≤◌, ℕ, ◌+◌, if◌then◌else◌, Bool, List, [], ◌∷◌, Some, None, length}
use Rattle.std.specs.List.{flat_map}
use Rattle.captures.specs.HexLines.{hex_text}
use Rattle.captures.specs.Messages.{messages_of_harts}
use Rattle.captures.specs.Versions.{capture_of}
use Rattle.legalpath.specs.ProgramLog.{ProgramLog}
use Rattle.message.specs.OfHart.{of_hart}
use Rattle.message.specs.declared.header.Version.{Version}
use Rattle.payload.specs.declared.mode.Mode.{Mode}
use Rattle.command_inputs.specs.declared.words.Encode.{Encode}
use Rattle.log_commands.specs.Encoding.{messages_in_order, written}
use Rattle.log_commands.specs.Parts.{first_hart}

-- The capture of all logs, or its messages as lines of hexadecimal.
abbrev pub complete_text : Bool → Version → ℕ → Mode → List ProgramLog → List ℕ
complete_text hex version period mode logs =
    if hex then hex_text (messages_of_harts period mode 0 logs) else capture_of version period mode logs

-- What is asked of `encode`, and the legal logs whose messages it writes.
abbrev pub PartRun : Type 0
PartRun = Encode × List ProgramLog

-- The logs of all these runs, in order.
abbrev pub logs_of_runs : List PartRun → List ProgramLog
logs_of_runs runs = flat_map (λ run. run.1) runs

-- What these runs write, one after the other.
abbrev pub text_of_runs : List PartRun → List ℕ
text_of_runs runs = flat_map (λ run. written run.0 run.1) runs

-- What is asked for is the part of a capture of this many harts whose first hart is this one, in this form, version and
-- mode and at this period, one log after the other.
pub record AsksPart (hex : Bool) (version : Version) (period : ℕ) (mode : Mode) (harts hart : ℕ) (asked : Encode)
    : Type 0 where
  pub in_form : asked.hex ≡ hex
  pub in_version : asked.version ≡ version
  pub at_period : asked.period ≡ period
  pub in_mode : asked.mode ≡ mode
  pub of_harts : asked.of ≡ Some harts
  pub from_hart : first_hart asked.first ≡ hart
  pub in_order : asked.mixed ≡ None

-- These runs are those of all parts from this hart on of a capture of this many harts. Each has a log at least, and the
-- next part's first hart comes after that of its last log.
abbrev pub AreParts : Bool → Version → ℕ → Mode → ℕ → ℕ → List PartRun → Type 0
AreParts hex version period mode harts hart [] = hart ≡ harts
AreParts hex version period mode harts hart (run ∷ runs) =
    AsksPart hex version period mode harts hart run.0 × (1 ≤ length run.1)
    × AreParts hex version period mode harts (hart + length run.1) runs

-- What the runs of all parts write, one after the other, is the capture of all their logs.
abbrev pub PartsAreJoined : Type 0
PartsAreJoined =
    (hex : Bool) (version : Version) (period : ℕ) (mode : Mode) (harts : ℕ) (runs : List PartRun) → 1 ≤ harts
    → AreParts hex version period mode harts 0 runs
    → text_of_runs runs ≡ complete_text hex version period mode (logs_of_runs runs)

-- Where no count of all harts is given, nor a seed, the capture of all logs is written.
abbrev pub AllLogsAreOnePart : Type 0
AllLogsAreOnePart =
    (asked : Encode) (logs : List ProgramLog) → asked.first ≡ None → asked.of ≡ None → asked.mixed ≡ None
    → written asked logs ≡ complete_text asked.hex asked.version asked.period asked.mode logs

-- Mixed messages are a mixing of those that are written one log after another: each hart's are the same, in the same
-- order.
abbrev pub MixedMessagesAreTheSame : Type 0
MixedMessagesAreTheSame =
    (seed period : ℕ) (mode : Mode) (first : ℕ) (logs : List ProgramLog) (hart : ℕ)
    → of_hart hart (messages_in_order (Some seed) period mode first logs)
    ≡ of_hart hart (messages_in_order None period mode first logs)
