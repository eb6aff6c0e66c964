-- The parts that a hart's messages describe, whatever they are.
use Rattle.std.specs.Prelude.{ℕ, ◌≡◌, ◌<◌, ◌++◌, List, [], ◌∷◌, Some, slice_get}
use Rattle.retire.specs.declared.event.Event.{Event}
use Rattle.rvclass.specs.Words.{Words}
use Rattle.payload.specs.ClosedTrace.{last_is_closing}
use Rattle.payload.specs.declared.mode.Mode.{Mode}
use Rattle.decoder.specs.Describes.{Describes}
use Rattle.message.specs.OfHart.{of_hart, packets_of}
use Rattle.message.specs.declared.message.Message.{Message}
use Rattle.losses.specs.Parts.{LogPart, gap, stretch}
use Rattle.losses.specs.PartsIn.{parts_in}
use Rattle.losses.specs.Runs.{Run, mode_in, runs, trace_of_run}
use Rattle.losses.specs.declared.part.HartPieces.{HartPieces}

-- The parts are, for each run, the gap before it and a stretch of the events that its trace describes.
abbrev pub RunsDescribe : Words → Mode → List Run → List LogPart → Type 0
RunsDescribe words mode [] parts = parts ≡ []
RunsDescribe words mode (run ∷ runs) parts =
    (events : List Event) × (rest : List LogPart) × (parts ≡ gap run.missing ++ (stretch events ++ rest))
    × Describes words (trace_of_run mode run) events × RunsDescribe words mode runs rest

-- A hart's messages describe these parts, where this mode is handed in.
abbrev pub MessagesDescribe : Words → Mode → List Message → List LogPart → Type 0
MessagesDescribe words mode messages parts = RunsDescribe words (mode_in mode (runs messages)) (runs messages) parts

-- For each of so many harts, its messages among these describe some parts.
abbrev pub EachHartDescribes : Words → Mode → ℕ → List Message → Type 0
EachHartDescribes words mode harts messages =
    (hart : ℕ) → hart < harts → (parts : List LogPart) × MessagesDescribe words mode (of_hart hart messages) parts

-- The parts of each hart are those that its messages describe. A hart is marked as closed if and only if the last of
-- its packets closes the trace.
pub record AreDescribed {A : Type 0} (words : Words) (mode : Mode) (messages : List Message)
    (harts : List (HartPieces A))
    : Type 0 where
  pub parts : (hart : ℕ) (pieces : HartPieces A) → slice_get harts hart ≡ Some pieces
      → MessagesDescribe words mode (of_hart hart messages) (parts_in pieces.parts.items)
  pub closed : (hart : ℕ) (pieces : HartPieces A) → slice_get harts hart ≡ Some pieces
      → pieces.closed ≡ last_is_closing (packets_of hart messages)
