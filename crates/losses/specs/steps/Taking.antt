-- What is kept where a packet or a message is taken, and what is known where it is not.
use Rattle.std.specs.Prelude.{ℕ, ◌≡◌, ◌+◌, ◌++◌, All, false, List, [], ◌∷◌, length, ⊤, Result}
use Rattle.std.specs.Result.{MatchResult}
use Rattle.rvclass.specs.Fetch.{words_of}
use Rattle.rvclass.specs.Image.{Image}
use Rattle.rvclass.specs.Words.{Words}
use Rattle.payload.specs.declared.mode.Mode.{Mode}
use Rattle.payload.specs.declared.packet.Packet.{Packet}
use Rattle.decoder.specs.declared.fault.DecodeFault.{DecodeFault}
use Rattle.message.specs.Accepted.{newcomers}
use Rattle.message.specs.declared.message.Message.{Message}
use Rattle.losses.specs.PartsIn.{parts_in}
use Rattle.losses.specs.Runs.{Run, missing_behind, over_before, packets_behind, run_of}
use Rattle.losses.specs.Stops.{AreAcceptedLossy}
use Rattle.losses.specs.steps.Collecting.{IsNewPieces, IsNewTrace}
use Rattle.losses.specs.steps.FollowingRuns.{FedRuns, FollowsEveryHart, FollowsRuns, IsMessageFault}
use Rattle.losses.specs.declared.collecting.Collection.{Collection}
use Rattle.losses.specs.declared.fault.LossyFault.{LossyFault}
use Rattle.losses.specs.declared.hart_trace.HartTrace.{HartTrace}
use Rattle.losses.specs.declared.part.Part.{Part}

-- A hart's next packet was taken or refused, before which so many numbers are missing. After any runs, it is collected,
-- or the fault says why not.
pub record TakesPacket {A : Type 0} (words : Words) (mode : Mode) (packet : Packet) (missed : ℕ)
    (old new : HartTrace A) (before after : List (Part A)) (result : Result ⊤ DecodeFault) : Type 0 where
  pub of_runs : (done : List Run) (missing next : ℕ) (packets : List Packet)
      → FollowsRuns words mode done missing packets next false old.decoder (parts_in before) old.stretch.items
      → FedRuns words mode (done ++ over_before missed (run_of missing packets)) (missing_behind missed missing)
      (packets_behind missed packets) (next + missed) packet new.decoder (parts_in after) new.stretch.items result

-- There are as many traces and pieces as harts.
pub record HasEachHart {A : Type 0} (collection : Collection A) : Type 0 where
  pub traces : length collection.traces.items ≡ length collection.demux
  pub pieces : length collection.pieces.items ≡ length collection.demux

-- Nothing is collected of so many harts.
pub record IsNewCollection {A : Type 0} (harts : ℕ) (collection : Collection A) : Type 0 where
  pub demux : collection.demux ≡ newcomers harts
  pub traces_count : length collection.traces.items ≡ harts
  pub pieces_count : length collection.pieces.items ≡ harts
  pub traces : All IsNewTrace collection.traces.items
  pub pieces : All IsNewPieces collection.pieces.items

-- These messages are in the collection, whatever they are.
abbrev pub Collects : {A : Type 0} → Image → Mode → List Message → Collection A → Type 0
Collects program mode messages collection =
    FollowsEveryHart (words_of program) mode messages collection.demux collection.traces.items collection.pieces.items

-- These messages of so many harts are in the collection, and a demultiplexer accepts them, one after the other.
pub record HasCollected {A : Type 0} (program : Image) (mode : Mode) (harts : ℕ) (messages : List Message)
    (collection : Collection A) : Type 0 where
  pub of_any : Collects program mode messages collection
  pub each_hart : HasEachHart collection
  pub count : length collection.demux ≡ harts
  pub accepted : AreAcceptedLossy (newcomers harts) messages

-- A message was taken or refused. After any messages, it is collected, or the fault says why not.
pub record CollectsMessage {A : Type 0} (program : Image) (mode : Mode) (message : Message) (old new : Collection A)
    (result : Result ⊤ LossyFault) : Type 0 where
  pub of_any : (messages : List Message) → Collects program mode messages old
      → MatchResult result (λ taken. Collects program mode (messages ++ message ∷ []) new)
      (IsMessageFault (words_of program) mode messages message)
